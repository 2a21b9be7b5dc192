-- A receive channel and the circuit that it follows (Receiver 13), by what the router and the channel promise.
-- Assumes nothing.
use Rattle.std.specs.Prelude.{◌≡◌, List, ℕ, [], Result}
use Rattle.ownership.specs.Calls.{Call}
use Rattle.ownership.specs.OnTable.{table_step, done}
use Rattle.cube.specs.Cube.{port_count}
use Rattle.common.specs.declared.refusal.Refusal.{Refusal}
use Rattle.answers.specs.declared.Acknowledged.{Acknowledged}
use Rattle.answers.specs.declared.Rejected.{Rejected}
use Rattle.answers.specs.Opens.{opened_number, opened_values}
use Rattle.receiver.specs.declared.Followed.{Followed}
use Rattle.receiver.specs.Receive.{followed}

-- The call took the bytes of the table to those after it, and the channel is the one that its answer names.
pub record Meets (before after : List ℕ) (call : Call) (address count ignores : ℕ) (r : Result Followed Refusal) : Type 0 where
  pub opened : Result Acknowledged Rejected
  pub circuit : done after (opened_number opened) (opened_values opened) [] ≡ table_step port_count before call
  pub channel : r ≡ followed opened address count ignores
