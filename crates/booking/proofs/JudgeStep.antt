-- What the call that judges a book gives: the number of the first test that applies, of the table and then of the book, and nothing else.
-- Assumes nothing.
use mathlib.Core.Path.{◌≡◌, refl, sym, ◌∙◌}
use mathlib.Core.Logic.{◌≢◌, ⊎_elim}
use mathlib.Core.List.{List, [], ◌∷◌}
use Prim.Native.Nat.{ℕ}
use Rattle.common.specs.Tests.{refusal}
use Rattle.common.proofs.Tests.{same?}
use Rattle.layout.specs.Resources.{Width}
use Rattle.table.specs.View.{view}
use Rattle.table.specs.Encode.{AllBytes}
use Rattle.soundness.specs.TableTests.{table_tests}
use Rattle.judging.specs.Judged.{judge_facts, judge_tests}
use Rattle.ownership.specs.Calls.{judging, call_tests, result_of}
use Rattle.ownership.specs.TableFacts.{open_in}
use Rattle.ownership.specs.OnTable.{facts_of, lent_tests, stopped_at, table_step, done}
use Rattle.ownership.proofs.BytesAfter.{bytes_written}
use Rattle.call_tests.proofs.Stopping.{table_stops as lent_stops, table_passes}
use Rattle.router.proofs.TableStep.{call_stopped, call_passed}

module _ (q : ℕ) (b ports index : List ℕ) (circuits hops : ℕ) where
  -- a test of the table stops it
  pub judging_table_stops : {n : ℕ} → n ≡ refusal (table_tests q b) → n ≢ 0 → done b n [] (ports ∷ index ∷ []) ≡ table_step q b (judging ports index circuits hops)
  unfolding stopped_at lent_tests
  judging_table_stops e f = call_stopped q b (judging ports index circuits hops) (sym (lent_stops q b _ e f)) f

  -- or the book is judged
  module _ (z : 0 ≡ refusal (table_tests q b)) {n : ℕ} (judged : n ≡ refusal (judge_tests (judge_facts (view b)) ports index circuits hops)) where
    stopped_is : n ≡ stopped_at q b (judging ports index circuits hops)
    unfolding stopped_at lent_tests call_tests facts_of open_in
    stopped_is = judged ∙ sym (table_passes q b _ (sym z))

    pub book_judged : Width q → AllBytes b → done b n [] (ports ∷ index ∷ []) ≡ table_step q b (judging ports index circuits hops)
    unfolding result_of bytes_written
    book_judged width small =
        ⊎_elim (λ e. rw e (call_passed q b (judging ports index circuits hops) width (sym e ∙ stopped_is) small refl refl)) (call_stopped q b (judging ports index circuits hops) stopped_is) (same? n 0)
