-- What a whole send comes to on the bytes of a table, as the code writes them: its answer, and each byte afterwards. Nobody has to believe these: that the bytes are
-- those that show what a send means is AfterSend.send_encoded_over.
-- Assumes nothing.
use Rattle.std.specs.Prelude.{◌≡◌, ◌≢◌, Bool, true, List, ℕ, ◌≤◌, ◌<◌, length}
use Rattle.cube.specs.Cube.{largest_dimension, NodeOf, VectorOf}
use Rattle.paths.specs.BoardPorts.{BoardFor}
use Rattle.paths.specs.Send.{Outcome, acknowledged, route_rejected, receive_rejected, SendResult}
use Rattle.layout.specs.Layout.{table_length, dimension_at}
use Rattle.entries.specs.EntryContracts.{put_receiver}
use Rattle.table.specs.View.{View, view, shape_of}
use Rattle.answers.specs.SendOnTable.{waiting_helps, send_in, AnswerOnBytes, answer_of_outcome}
use Rattle.answers.specs.PassOnBytes.{hold_path}

-- the entries of an acknowledged send, written one after another: the circuit is c, its source s, its target t
unfoldable pub bytes_after_send : List ℕ → ℕ → ℕ → ℕ → Outcome → List ℕ
bytes_after_send b c s t (acknowledged w k) = put_receiver (hold_path b c s w) t k c
bytes_after_send b c s t route_rejected = b
bytes_after_send b c s t receive_rejected = b

unfoldable pub send_answer : (helps : Bool) → List ℕ → ℕ → ℕ → ℕ → SendResult → AnswerOnBytes
send_answer helps b c s t x = answer_of_outcome helps x.outcome x.scouts (bytes_after_send b c s t x.outcome)

-- What it answers on the bytes of a table, and the bytes afterwards; and what the search alone answers, before it is asked whether waiting helps
unfoldable pub sent_on_bytes : List ℕ → ℕ → ℕ → ℕ → ℕ → ℕ → AnswerOnBytes
sent_on_bytes b s t c type vector = send_answer (waiting_helps (view b) s t type vector) b c s t (send_in (view b) s t type vector)

unfoldable pub searched : List ℕ → ℕ → ℕ → ℕ → ℕ → ℕ → AnswerOnBytes
searched b s t c type vector = send_answer true b c s t (send_in (view b) s t type vector)

-- what a send asks: a table of a cube up to dimension 8, a source and a target of it, a vector of its ports, a circuit
pub record MaySendIn (long : ℕ) (b : List ℕ) (s t c vector : ℕ) : Type 0 where
  pub bytes : length b ≡ long
  pub fits : dimension_at b ≤ largest_dimension
  pub source : NodeOf (dimension_at b) s
  pub target : NodeOf (dimension_at b) t
  pub ports : VectorOf (dimension_at b) vector
  pub circuit : c ≢ 0
  pub small : c < 65536

-- what it asks of a board of so many positions and a fold mask, for a table with so many ports
abbrev pub BoardIn : ℕ → ℕ → ℕ → View → Type 0
BoardIn ports width fold v = BoardFor ports width fold (shape_of v)

-- of a narrow table
abbrev pub MaySend : List ℕ → ℕ → ℕ → ℕ → ℕ → Type 0
MaySend b s t c vector = MaySendIn table_length b s t c vector
