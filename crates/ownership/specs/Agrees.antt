-- Lists of calls, on a table and in the history, and what it is for both to agree.
-- Assumes nothing.
use Rattle.std.specs.Prelude.{◌≡◌, ◌≢◌, List, [], ◌∷◌, ◌++◌, ℕ}
use Rattle.ownership.specs.Calls.{Call, CallResult, lent, After}
use Rattle.ownership.specs.OnTable.{table_step}
use Rattle.ownership.specs.History.{History, history_step}
use Rattle.ownership.specs.HistoryView.{bytes_of}
use Rattle.ownership.specs.Invariant.{Valid}

-- Calls 2: a list of calls made one after another, be they calls alone or with more said of each: what they leave, and what each of them gives
module _ {C S : Type 0} (makes : S → C → After S) where
  unfoldable pub after_calls : S → List C → S
  after_calls s [] = s
  after_calls s (a ∷ more) = after_calls (makes s a).state more

  unfoldable pub call_results : S → List C → List CallResult
  call_results s [] = []
  call_results s (a ∷ more) = (makes s a).result ∷ call_results (makes s a).state more

-- on a table, where the step is the contracts' own definition of a call on a table with q ports to a node
abbrev pub table_after : ℕ → List ℕ → List Call → List ℕ
table_after q b calls = after_calls (table_step q) b calls

abbrev pub table_results : ℕ → List ℕ → List Call → List CallResult
table_results q b calls = call_results (table_step q) b calls

-- and in the history
abbrev pub history_after : History → List Call → History
history_after h calls = after_calls history_step h calls

abbrev pub history_results : History → List Call → List CallResult
history_results h calls = call_results history_step h calls

-- History 11, for a list of calls, refused ones included: table and history agree in every byte, each answer and each lent buffer is the history's,
-- what always holds of a history holds of it (History 13: no two of its circuits share a link or a receive channel), and wherever a call is refused,
-- so where a search is rejected too, each byte of the table and of the lent buffers is as it was. The table's side of it runs the very definitions that the
-- contracts of the calls cite. The calls are lent no second table, so nothing else could be taken for this one.
pub record Agrees (q : ℕ) (b : List ℕ) (h : History) (calls : List Call) : Type 0 where
  pub bytes : table_after q b calls ≡ bytes_of q (history_after h calls)
  pub results : table_results q b calls ≡ history_results h calls
  pub valid : Valid (history_after h calls)
  pub refused : (before : List Call) (a : Call) (more : List Call) → calls ≡ before ++ a ∷ more → (table_step q (table_after q b before) a).result.number ≢ 0
      → (table_after q b (before ++ a ∷ []) ≡ table_after q b before) × ((table_step q (table_after q b before) a).result.buffers ≡ lent a)

-- Calls 7: an accepted call answers 0.
abbrev pub Accepted : ℕ → List ℕ → Call → Type 0
Accepted q b a = (table_step q b a).result.number ≡ 0
