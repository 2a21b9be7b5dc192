-- A call on a table and in the history: what it gives and leaves where no test stops it, where one does, where it is refused and where it is accepted.
-- Assumes nothing.
use mathlib.Core.Path.{◌≡◌, ap, sym, ◌∙◌}
use mathlib.Core.Logic.{⊎_elim, ◌≢◌}
use mathlib.Core.List.{List}
use Prim.Native.Nat.{ℕ}
use borrow.Author.Tests.{eq-eqb, ne_eqb}
use Rattle.common.proofs.Tests.{same?}
use Rattle.table.specs.View.{view}
use Rattle.table.specs.Encode.{encode_over}
use Rattle.ownership.specs.Calls.{Call, CallFacts, refused_with, result_of, After, call_on}
use Rattle.ownership.specs.Update.{updated}
use Rattle.ownership.specs.OnTable.{facts_of, stopped_at, table_step}
use Rattle.ownership.specs.History.{History, facts_on, stopped_on, applied, history_step}

-- of a call on any state, whose tests answer n
pub record StepSays {S : Type 0} (before after : S) (a : CallFacts) (n : ℕ) (call : Call) (x : After S) : Type 0 where
  pub result : n ≡ 0 → x.result ≡ result_of a call
  pub stopped : n ≢ 0 → x ≡ record { state = before; result = refused_with n call }
  pub refused : x.result.number ≢ 0 → x.state ≡ before
  pub accepted : x.result.number ≡ 0 → x.state ≡ after
  pub passed : x.result.number ≡ 0 → n ≡ 0

module _ {S : Type 0} (before after : S) (a : CallFacts) (n : ℕ) (call : Call) where
  is_stopped : n ≢ 0 → call_on before after a n call ≡ record { state = before; result = refused_with n call }
  unfolding call_on
  is_stopped f = rw (ne_eqb n 0 f) (rw (ne_eqb n 0 f))

  pub step_says : StepSays before after a n call (call_on before after a n call)
  step_says =
      record {
        result = λ e. unfold call_on in rw (eq-eqb n 0 e);
        stopped = is_stopped;
        refused = λ f. unfold call_on in rw (ne_eqb _ 0 f);
        accepted = λ e. unfold call_on in rw (eq-eqb _ 0 e);
        passed = λ e. ⊎_elim (λ z. z) (λ f. sym (ap (λ (x : After S). x.result.number) (is_stopped f)) ∙ e) (same? n 0);
      }

pub table_step_lem : (q : ℕ) (b : List ℕ) (a : Call) → StepSays b (encode_over q (updated (view b) a)) (facts_of (view b)) (stopped_at q b a) a (table_step q b a)
unfolding table_step
table_step_lem q b a = step_says b _ _ _ a

pub history_step_lem : (h : History) (a : Call) → StepSays h (applied h a) (facts_on h) (stopped_on h a) a (history_step h a)
unfolding history_step
history_step_lem h a = step_says h _ _ _ a
