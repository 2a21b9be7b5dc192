-- `layout::WideLayout::masks_or` meets its contract: the masks before node n are joined.
use native.Mathlib.Omega.{arith}
use mathlib.Core.Path.{◌≡◌, ap, ◌∙◌, subst}
use Prim.Native.Nat.{◌+◌}
use Rattle.layout.specs.Layout.{mask_place, mask_number}
use Rattle.layout.specs.LayoutContracts.{MasksOr}
use Rattle.layout.proofs.Masks.{or_none, or_more}
use Rattle.layout.proofs.WideLayout.masks_or.Goals as goal

pub loop-n-init : goal.loop-n-init
loop-n-init c = or_none 18 2 _ _

pub loop-n-preserved : goal.loop-n-preserved
loop-n-preserved c =
    let place : 2 + c.enable_masks.result ≡ mask_place 18 2 c.loop-n.n = omega (arith, c.enable_masks.ensures) in
    or_more 18 2 c.args.t.now c.args.from c.loop-n.n c.loop-n.all c.mask-all.result c.loop-n.invariant c.loop-n.auto.n (c.mask-all.ensures.0 ∙ ap (mask_number 18 c.args.t.now) place)

pub returns : goal.returns
returns c =
    let all : c.loop-n.n ≡ c.args.to = omega (arith, c.loop-n.auto.n-end c.requires.1) in
    subst (λ n. MasksOr 18 2 c.args.t.now c.args.from n c.loop-n.all) all c.loop-n.invariant
