-- `SoundTable<Wide>::unfolds_held` meets its contract: the bit is looked at in both masks, and then the partner's links.
use mathlib.Core.Path.{sym, ap, ◌∙◌, ◌≡◌}
use mathlib.Core.Bool.{not, true}
use native.Mathlib.Omega.{arith}
use Rattle.common.specs.Lists.{any, from}
use Rattle.common.proofs.Tests.{clash}
use Rattle.cube.specs.Axes.{partner}
use Rattle.cube.specs.Bits.{has}
use Rattle.cube.specs.Cube.{cube_nodes}
use Rattle.layout.specs.Layout.{dimension_at, fold_at}
use Rattle.table.specs.View.{view, held_in}
use Rattle.ownership.specs.OnTable.{facts_of}
use Rattle.call_tests.proofs.folding.SoundTable+Wide.unfolds_held.Goals.{then-mask_bit, else-mask_bit}
use Rattle.call_tests.proofs.folding.SoundTable+Wide.unfolds_held.Goals as goal

pub port_held-requires : goal.port_held-requires
unfolding partner
port_held-requires c = omega (arith, c.partner.ensures)

pub returns-then-not-mask_bit : goal.returns-then-not-mask_bit
unfolding facts_of view partner
returns-then-not-mask_bit c =
    let b = c.args.self.now.bytes.now in
    let p = c.args.p in
    let looked = c.port_held.ensures ∙ ap (λ q. any (λ n. held_in (view b) n q) (from 0 (cube_nodes (dimension_at b)))) c.partner.ensures in
    elim c.if-mask_bit.branch [
      | then-mask_bit w ↦
          let on : has (fold_at b) p ≡ true = ap (λ f. has f p) (sym (c.fold_mask-fold.ensures ∙ c.board.ensures.2)) ∙ sym c.mask_bit.ensures ∙ w.if-mask_bit.true in
          let off : not (has c.args.mask p) ≡ true = ap not (ap (λ m. has m p) (sym w.from.ensures) ∙ sym w.mask_bit-then-mask_bit.ensures) ∙ sym w.value-is ∙ c.if-not-mask_bit.true in
          rw (on, off) looked
      | else-mask_bit w ↦ absurd (clash c.if-not-mask_bit.true (w.value-is ∙ w.if-mask_bit.false))
    ]
