-- `converting::parts::copy_masks` meets its contract: one mask more.
use mathlib.Core.Path.{◌≡◌, ap, ◌∙◌}
use native.Mathlib.Omega.{arith}
use Prim.Native.Nat.{ℕ}
use Rattle.layout.specs.Layout.{mask_number}
use Rattle.converting.specs.ConvertContracts.{MasksFit}
use Rattle.converting.proofs.Copied.{masks_none, masks_more, byte_fits}
use Rattle.converting.proofs.parts.copy_masks.Goals as goal
use Rattle.converting.specs.ConvertContracts.{MasksCopied}
use mathlib.Core.Path.{subst}

pub loop-n-init : goal.loop-n-init
loop-n-init g c = masks_none _ _ _ _ _ _

pub put_mask-requires : goal.put_mask-requires
unfolding MasksFit
put_mask-requires g c =
    let small = c.requires.fit c.loop-n.n c.loop-n-test.true in
    (omega (arith, c.mask_place-in-loop-n.ensures, c.requires.long.1, c.loop-n.auto.to), byte_fits g.met.L.Layout.laws (c.mask-mask.ensures.0 ∙ ap (mask_number g.F.Layout.PORTS c.args.from.now) c.mask_place.ensures.0) small)

pub loop-n-preserved : goal.loop-n-preserved
loop-n-preserved g c =
    let laws = g.met.L.Layout.laws in
    rw c.put_mask.ensures
    (masks_more _ _ _ _ c.args.from.now c.args.to.now laws.ports_are c.loop-n.to c.loop-n.n c.mask_place-in-loop-n.result c.mask-mask.result c.loop-n.invariant c.loop-n-test.true
    (omega (arith, c.requires.long.1, c.loop-n.auto.to, laws.long_is, laws.enable_is)) c.mask_place-in-loop-n.ensures.0 (c.mask-mask.ensures.0 ∙ ap (mask_number g.F.Layout.PORTS c.args.from.now) c.mask_place.ensures.0))

pub returns : goal.returns
returns g c =
    let all : c.loop-n.n ≡ 256 = omega arith in
    subst (λ (n : ℕ). MasksCopied g.F.Layout.PORTS g.F.Layout.ENABLE g.L.Layout.PORTS g.L.Layout.ENABLE c.args.from.now n c.args.to.now c.loop-n.to) all c.loop-n.invariant
