-- What is known of each table after an event, rule by rule: what Store.learn defines, said again. The rules leave no choice (proved: Learns.learns, learns_exactly).
-- Assumes nothing.
use Rattle.std.specs.Prelude.{◌≡◌, ◌≢◌, ℕ, List, Some, None}
use Rattle.ownership.specs.Calls.{Call, making}
use Rattle.ownership.specs.History.{history_step, new_history}
use Rattle.ownership.specs.Kinds.{Kind, narrow, wide}
use Rattle.joining.specs.Joined.{joined_history}
use Rattle.store.specs.Store.{Event, on, convert, join, overwrite, KnownTable, table_of, Known, written_by}

-- before is what was known, number what the event answered, and after what is known then. `None` is said of a table of which no history is known.
pub record Learns (before : Known) (e : Event) (number : ℕ) (after : Known) : Type 0 where
  -- History 17: a refused event changes nothing that is known.
  pub refused : number ≢ 0 → (i : ℕ) → after i ≡ before i
  -- History 16: an event changes no other table than the one that it writes: of every other the same is known as before.
  pub others : (i : ℕ) → written_by e ≢ i → after i ≡ before i
  -- History 17: an accepted make begins a history, whatever was known. The kind of the table is that of the call.
  pub made : (w : Kind) (i D : ℕ) → e ≡ on w i (making D) → number ≡ 0 → after i ≡ Some (table_of w (new_history D))
  -- History 17: every other accepted call on a table whose history is known is entered there. Setting a fold mask is such a call.
  pub called : (w : Kind) (i : ℕ) (a : Call) → e ≡ on w i a → ((D : ℕ) → a ≢ making D) → number ≡ 0 → (t : KnownTable) → before i ≡ Some t
      → after i ≡ Some (table_of t.kind (history_step t.history a).state)
  -- History 17: where none is known, a call other than a make begins none.
  pub called_unknown : (w : Kind) (i : ℕ) (a : Call) → e ≡ on w i a → ((D : ℕ) → a ≢ making D) → number ≡ 0 → before i ≡ None → after i ≡ None
  -- History 18: behind an accepted conversion the history of the table read is known of the one written, in place of its own: of a wide one that of a narrow one, and of a
  -- narrow one that of a wide one.
  pub widened : (i j : ℕ) → e ≡ convert narrow i j → number ≡ 0 → (t : KnownTable) → before i ≡ Some t → after j ≡ Some (table_of wide t.history)
  pub narrowed : (i j : ℕ) → e ≡ convert wide i j → number ≡ 0 → (t : KnownTable) → before i ≡ Some t → after j ≡ Some (table_of narrow t.history)
  -- History 18: where that of the table read is not known, nothing is known of the one written.
  pub read_unknown : (w : Kind) (i j : ℕ) → e ≡ convert w i j → number ≡ 0 → before i ≡ None → after j ≡ None
  -- History 19: an accepted join gives the third the history of both halves, in place of its own.
  pub joined : (i j t : ℕ) → e ≡ join i j t → number ≡ 0 → (x y : KnownTable) → before i ≡ Some x → before j ≡ Some y → after t ≡ Some (table_of narrow (joined_history x.history y.history))
  -- History 19: where that of either half is not known, nothing is known of the third.
  pub first_unknown : (i j t : ℕ) → e ≡ join i j t → number ≡ 0 → before i ≡ None → after t ≡ None
  pub second_unknown : (i j t : ℕ) → e ≡ join i j t → number ≡ 0 → before j ≡ None → after t ≡ None
  -- History 20: bytes that somebody else writes end what is known of the table.
  pub overwritten : (i : ℕ) (b : List ℕ) → e ≡ overwrite i b → number ≡ 0 → after i ≡ None
