-- What the functions of a job do to the bytes of a table, as their contracts say it. Nobody has to believe these.
-- Assumes nothing.
use Rattle.std.specs.Prelude.{◌≡◌, List, ℕ, ◌+◌, ◌*◌, ◌≤◌, length}
use Rattle.common.specs.Tests.{refusal}
use Rattle.answers.specs.declared.Opening.{Opening}
use Rattle.soundness.specs.TableTests.{table_tests}
use Rattle.ownership.specs.Sends.{Send, send_at}
use Rattle.ownership.specs.InTurn.{Job}
use Rattle.ownership.specs.JobSays.{opens_on}

-- one send of a list, on a table with q ports to a node: the number that it answers, and the bytes that it leaves
pub record OpenedAt (q : ℕ) (b sends : List ℕ) (i number : ℕ) (after : List ℕ) : Type 0 where
  pub number_is : number ≡ (opens_on q b (send_at sends i)).result.number
  pub bytes_are : after ≡ (opens_on q b (send_at sends i)).state

-- what it asks: a table that passes its tests, and a list that has the send
pub record MayOpen (q : ℕ) (b sends : List ℕ) (i : ℕ) : Type 0 where
  pub tests : refusal (table_tests q b) ≡ 0
  pub room : 10 * i + 10 ≤ length sends

-- the sends of a list in turn: bytes, number and count of a job
abbrev pub job_of : List ℕ → ℕ → ℕ → Job (List ℕ)
job_of b number sends = record { result = record { number = number; sends = sends }; state = b }

-- a send as the code reads it
abbrev pub read_as : Opening → Send
read_as x = record { source = x.source.0; channel = x.channel; target = x.target.0; type = x.routing; vector = x.vector }
