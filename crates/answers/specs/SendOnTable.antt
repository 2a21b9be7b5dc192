-- A send on what a table shows: which links are free, the send of a routing type, what the table shows after it, and what is answered. The layout of the bytes
-- plays no part.
-- Assumes nothing.
use Rattle.std.specs.Prelude.{Bool, cond, List, [], ◌∷◌, ℕ, length}
use Rattle.cube.specs.Cube.{next}
use Rattle.paths.specs.Network.{Path, LinkState, is_free, link_state}
use Rattle.paths.specs.Send.{Outcome, acknowledged, route_rejected, receive_rejected, SendResult}
use Rattle.paths.specs.Waiting.{some_attempt}
use Rattle.paths.specs.CubeNetwork.{attempts, send}
use Rattle.table.specs.View.{View, held_in, set_owner, set_receiver, receive, net, shape_of}

-- Cube 13: what a table shows of a link, one of three: free, held or blocked
unfoldable pub state_in : View → ℕ → ℕ → LinkState
state_in v n p = link_state (v.enabled n p) (held_in v n p)

-- Cube 13: a link is free if it is enabled and no circuit holds it.
unfoldable pub free_in : View → ℕ → ℕ → Bool
free_in v n p = is_free (state_in v n p)

-- Searches 1, Searches 15: the send of a routing type from s to t over the ports of a vector, read on what a table shows
abbrev pub send_in : View → ℕ → ℕ → ℕ → ℕ → SendResult
send_in v s t type vector = send type (shape_of v) (free_in v) (receive v t) s vector t

-- the links of a path from node n given to circuit c, one after another
unfoldable pub hold_links : View → ℕ → ℕ → Path → View
hold_links v c n [] = v
hold_links v c n (p ∷ w) = hold_links (set_owner v n p c) c (next n p) w

-- Searches 10: acknowledged, the circuit holds every link of the path, and the channel; nothing else changes. The circuit is c, its source s, its target t.
unfoldable pub view_after_send : View → ℕ → ℕ → ℕ → Outcome → View
view_after_send v c s t (acknowledged w k) = set_receiver (hold_links v c s w) t k c
view_after_send v c s t route_rejected = v
view_after_send v c s t receive_rejected = v

-- Searches 13: waiting can help where one of the type's paths has no blocked link. (`some_attempt` says it over the attempts of the send, with "enabled" in
-- place of "free".)
unfoldable pub waiting_helps : View → ℕ → ℕ → ℕ → ℕ → Bool
waiting_helps v s t type vector = some_attempt (net v) v.enabled s t (attempts (shape_of v) type vector)

-- what a send answers: the number, the hops, the receive channel, the scouts, and the bytes afterwards
pub data AnswerOnBytes : Type 0 where
  answer_on_bytes : (number hops receive scouts : ℕ) → List ℕ → AnswerOnBytes

-- Calls 14: the answer of an outcome, with the scouts that were sent and the bytes after it. A route rejection is 10 (Refusals 10), or 22 where waiting does
-- not help (Refusals 22); a receive rejection is 11 (Refusals 11).
unfoldable pub answer_of_outcome : (helps : Bool) → Outcome → ℕ → List ℕ → AnswerOnBytes
answer_of_outcome helps (acknowledged w k) n b = answer_on_bytes 0 (length w) k n b
answer_of_outcome helps route_rejected n b = answer_on_bytes (cond helps 10 22) 0 0 n b
answer_of_outcome helps receive_rejected n b = answer_on_bytes 11 0 0 n b
