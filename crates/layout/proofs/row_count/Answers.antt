-- `layout::row_count` meets its contract: the entries before k are counted.
use mathlib.Core.Path.{◌≡◌, ◌∙◌, sym, ap}
use mathlib.Core.Bool.{Bool}
use Prim.Native.Nat.{ℕ, ◌*◌}
use native.Mathlib.Omega.{arith}
use lib.Dec.{eqb}
use lib.ListN.{length}
use borrow.Author.Tests.{eq-eqb, ne_eqb}
use Rattle.common.specs.Lists.{keep, from}
use Rattle.common.proofs.From.{count_none, count_yes, count_no}
use Rattle.layout.specs.Layout.{word_at}
use Rattle.layout.specs.LayoutContracts.{row_count}
use Rattle.layout.proofs.row_count.Goals as goal
use Rattle.layout.proofs.row_count.Goals.{then-word-c, else-word-c}

pub loop-k-init : goal.loop-k-init
loop-k-init g c = (omega arith, count_none _)

pub loop-k-preserved : goal.loop-k-preserved
loop-k-preserved g c =
    let f : ℕ → Bool = λ j. eqb (word_at c.args.row.now (2 * j)) c.args.c.0 in
    let k = c.loop-k.k in (
      elim c.if-word-c.branch [ then-word-c w ↦ omega (arith, w.count-is) | else-word-c w ↦ omega (arith, w.count-is) ],
      elim c.if-word-c.branch [
        | then-word-c w ↦ w.count-is ∙ count_yes f k c.loop-k.count (eq-eqb _ _ (sym c.word.ensures ∙ w.if-word-c.true)) c.loop-k.invariant.1
        | else-word-c w ↦ w.count-is ∙ count_no f k c.loop-k.count (ne_eqb _ _ (λ z. w.if-word-c.false (c.word.ensures ∙ z))) c.loop-k.invariant.1
      ],
    )

pub returns : goal.returns
unfolding row_count
returns g c =
    let e : c.loop-k.k ≡ g.H.Resource.WIDTH = omega arith in
    c.loop-k.invariant.1 ∙ ap (λ k. length (keep (λ j. eqb (word_at c.args.row.now (2 * j)) c.args.c.0) (from 0 k))) e
