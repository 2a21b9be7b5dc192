-- Wide 13: any call gives the same on a table and on the one of the other kind. What that is for two tables, the one with q ports to a node and the other with r,
-- which may be of one kind or of both: a history has no kind, so they may represent the same one.
-- Assumes nothing.
use Rattle.std.specs.Prelude.{◌≡◌, List, ℕ}
use Rattle.ownership.specs.Calls.{Call}
use Rattle.ownership.specs.OnTable.{table_step}
use Rattle.ownership.specs.History.{History, history_step}
use Rattle.ownership.specs.Agrees.{table_after, table_results, history_after}
use Rattle.ownership.specs.Invariant.{Represents}

-- a call answers the same on two tables that represent a history, and fills its buffers alike; and what it leaves represents one history again
pub record AnswersAlike (q r : ℕ) (b c : List ℕ) (h : History) (a : Call) : Type 0 where
  pub answer : (table_step q b a).result ≡ (table_step r c a).result
  pub one : Represents q (table_step q b a).state (history_step h a).state
  pub other : Represents r (table_step r c a).state (history_step h a).state

-- and so for calls made one after another
pub record AllAnswerAlike (q r : ℕ) (b c : List ℕ) (h : History) (calls : List Call) : Type 0 where
  pub answers : table_results q b calls ≡ table_results r c calls
  pub one : Represents q (table_after q b calls) (history_after h calls)
  pub other : Represents r (table_after r c calls) (history_after h calls)
