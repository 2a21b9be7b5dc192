-- The search on the bytes of a table: what the path that was found makes of the answer and of the bytes. Nobody has to believe these: they are what the code does to
-- single bytes, and the proofs join them to what a send means (SendOnTable, SendSays).
-- Assumes nothing.
use Rattle.std.specs.Prelude.{Bool, List, [], ◌∷◌, ℕ, ◌+◌, length, Result, Ok, Err}
use Rattle.common.specs.Refusals.{number_of}
use Rattle.cube.specs.Cube.{next}
use Rattle.paths.specs.Network.{Network, Path, LinkState, link_free, link_held, link_blocked}
use Rattle.paths.specs.Pass.{PassResult, none, found}
use Rattle.paths.specs.Search.{arriving}
use Rattle.paths.specs.Send.{Receive, lowest_available, none_available}
use Rattle.entries.specs.EntryContracts.{put_owner}
use Rattle.table.specs.View.{view, net}
use Rattle.answers.specs.declared.LinkState as State
use Rattle.answers.specs.declared.LinkState.TheVariants.{Free, Held, Blocked}
use Rattle.answers.specs.declared.Acknowledged.{Acknowledged}
use Rattle.answers.specs.declared.Rejected.{Rejected}
use Rattle.answers.specs.SendOnTable.{AnswerOnBytes, answer_on_bytes}

-- the bytes after the links of a path from node n are given to circuit c, one after another
unfoldable pub hold_path : List ℕ → ℕ → ℕ → Path → List ℕ
hold_path b c n [] = b
hold_path b c n (p ∷ w) = hold_path (put_owner b n p c) c (next n p) w

-- With no free path, route rejected (Searches 12). With one, the target takes the receive channel that is there to take; where there is none, receive rejected
-- (Searches 11). The path's links are held where it is acknowledged; where it is rejected each byte is as it was (Searches 16). The receive channel is answered
-- here and not yet held: that is for the pass above. h hops were made before the search came to node n.
unfoldable pub answer_of_pass : List ℕ → ℕ → ℕ → ℕ → Receive → PassResult → AnswerOnBytes
answer_of_pass b c n h r (none s) = answer_on_bytes 10 0 0 s b
answer_of_pass b c n h (lowest_available k) (found w s) = answer_on_bytes 0 (h + length w) k s (hold_path b c n w)
answer_of_pass b c n h none_available (found w s) = answer_on_bytes 11 0 0 s b

-- the arrival behind a port of node n, on the way to t
unfoldable pub arrival_after : Network → (ℕ → ℕ → Bool) → ℕ → ℕ → ℕ → ℕ → PassResult
arrival_after N free t n p = arriving (N.distance t (N.next n p)) N free t (N.next n p) p

-- how far node n of a table's cube is from t
unfoldable pub hops_left : List ℕ → ℕ → ℕ → ℕ
hops_left b t n = (net (view b)).distance t n

-- the three states of a link as the code answers them
abbrev pub state_of : State.LinkState → LinkState
state_of Free = link_free
state_of Held = link_held
state_of Blocked = link_blocked

-- an open as the code answers it, as the answer of a send with the bytes after it
abbrev pub opened_answer : Result Acknowledged Rejected → List ℕ → AnswerOnBytes
opened_answer (Ok a) b = answer_on_bytes 0 a.hops a.receive a.scouts b
opened_answer (Err r) b = answer_on_bytes (number_of r.refusal) 0 0 r.scouts b
