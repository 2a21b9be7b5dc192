-- What a call asks of a table, read off what the table shows; a single open there, and a job.
-- Assumes nothing.
use Rattle.std.specs.Prelude.{Bool, not, List, ℕ, eqb}
use Rattle.cube.specs.Cube.{circuit_of}
use Rattle.table.specs.View.{View, held_in, available}
use Rattle.circuit_path.specs.OpenCircuit.{is_open_in}
use Rattle.circuit_path.specs.PathOf.{path_of}
use Rattle.book.specs.BookOf.{book_of}
use Rattle.answers.specs.SendOnTable.{free_in, waiting_helps, send_in, view_after_send}
use Rattle.ownership.specs.Sends.{Send, JobResult}
use Rattle.ownership.specs.Calls.{CallFacts, no_job}
use Rattle.ownership.specs.InTurn.{Job, in_turn, single_open}

-- Calls 17: the send channel has an open circuit
unfoldable pub open_in : View → ℕ → ℕ → Bool
open_in v s c = is_open_in v (circuit_of s c)

-- Cube 14: a circuit holds the receive channel
unfoldable pub taken_in : View → ℕ → ℕ → Bool
taken_in v n k = not (eqb (v.receiver n k) 0)

-- the facts, with what a job comes to
abbrev pub facts_with : (List Send → JobResult) → View → CallFacts
facts_with job v =
    record {
      dimension = v.dimension;
      fold = v.fold;
      held = held_in v;
      is_open = open_in v;
      is_taken = taken_in v;
      sends = send_in v;
      waiting = waiting_helps v;
      path = λ s c. path_of v (circuit_of s c);
      book = book_of v;
      free = free_in v;
      available = available v;
      job = job;
    }

-- Calls 14: what a table shows after an open that no test stops: the circuit of the send channel holds what its send takes
abbrev pub opened : View → Send → View
opened v x =
    view_after_send v (circuit_of x.source x.channel) x.source x.target (send_in v x.source x.target x.type x.vector).outcome

-- Jobs 4: the sends of a job, each opened on what the one before it left.
unfoldable pub job_in : View → List Send → Job View
job_in v xs = in_turn (single_open (facts_with no_job) opened) v xs
