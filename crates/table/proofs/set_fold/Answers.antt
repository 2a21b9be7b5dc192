-- `table::set_fold` meets its contract: the fold mask, the masks of the cube's nodes and all other bytes are those that show the view.
use Rattle.std.proofs.Common.{arith, ◌≡◌, ◌∙◌, ap, sym}
use mathlib.Core.Path.{subst}
use Prim.Native.Nat.{◌^◌}
use lib.Bits.{bit_and}
use Rattle.layout.proofs.Folds.{fold_wide}
use Rattle.table.proofs.Folds.{Folding, begun, set_small, one_more, changed_small, folding_encoded}
use Rattle.table.proofs.set_fold.Goals as goal

pub loop-node-init : goal.loop-node-init
loop-node-init c = (begun c.args.fold c.with_partners-kept.result c.partners-added.result c.requires.long, λ i. set_small c.args.t.now 1 c.args.fold (λ j. omega (arith, c.slice_known-1.given j)) (omega (arith, c.ranges.fold.fits)) i)

pub put_mask-requires : goal.put_mask-requires
put_mask-requires c = (omega (arith, c.loop-node.invariant.0.size, c.mask_place-at.ensures.1), changed_small c.with_partners-kept.result c.mask-mask.ensures.1 c.partners-added.ensures.small)

pub loop-node-preserved : goal.loop-node-preserved
loop-node-preserved c =
    let nodes = c.node_count-nodes.ensures.most in (
      rw c.put_mask.ensures (one_more c.loop-node.invariant.0 (omega (arith, nodes, c.loop-node-test.true)) c.mask_place-at.ensures.0 c.mask-mask.ensures.0),
      λ i. omega (arith, c.type_inv.t i),
    )

pub returns : goal.returns
returns c =
    let b = c.args.t.now in
    let nodes = c.node_count-nodes.ensures.value ∙ ap (2 ^◌) c.dimension.ensures in
    let all : c.loop-node.node ≡ c.node_count-nodes.result = omega (arith, c.loop-node-test.false) in
    let kept = rw c.from.ensures at c.with_partners-kept.ensures in
    let added = rw c.from-2.ensures at c.partners-added.ensures in
    folding_encoded b c.loop-node.t c.args.fold _ c.with_partners-kept.result c.partners-added.result c.requires.long c.requires.fits c.requires.bits c.requires.enables
    (ap (bit_and c.args.fold) (sym (fold_wide b c.requires.long))) kept added
    (subst (λ n. Folding b c.args.fold c.with_partners-kept.result c.partners-added.result n c.loop-node.t) (all ∙ nodes) c.loop-node.invariant.0) c.loop-node.invariant.1
