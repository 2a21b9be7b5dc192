-- The ownership history. It sees the calls and their arguments, never the bytes of a table (History 1): each test and each answer is read off this record.
-- Assumes nothing.
use Rattle.std.specs.Prelude.{Bool, cond, ◌&&◌, ◌||◌, not, List, [], ◌∷◌, map, ℕ, eqb}
use Rattle.std.specs.Bool.{beq}
use Rattle.common.specs.Lists.{keep, from, any}
use Rattle.common.specs.Tests.{refusal}
use Rattle.paths.specs.Network.{Network, Path, Link, links, has_link, link_state, is_free}
use Rattle.paths.specs.Send.{Receive, Outcome, acknowledged, route_rejected, receive_rejected, SendResult, lowest_of}
use Rattle.paths.specs.Waiting.{some_attempt}
use Rattle.paths.specs.CubeNetwork.{Shape, network, attempts, send, is_link_of, circuit_count}
use Rattle.cube.specs.Bits.{has}
use Rattle.cube.specs.Axes.{axis}
use Rattle.cube.specs.Cube.{source_of, channel_of}
use Rattle.book.specs.Book.{BookCircuit}
use Rattle.ownership.specs.Sends.{Send, sends_in, JobResult}
use Rattle.ownership.specs.Calls.{Call, making, blocking, unblocking, opening, closing, tracing, arming, disarming, opening_all, booking, judging, folding, CallFacts, no_job, call_tests, After, call_on}
use Rattle.ownership.specs.InTurn.{Job, in_turn, single_open, after_job}

-- History 2: an open circuit: its source and send channel, its path, and the receive channel of its target
pub record Circuit : Type 0 where
  pub source : ℕ
  pub channel : ℕ
  pub ports : Path
  pub target : ℕ
  pub receive : ℕ

-- History 2: what is kept. The fold mask is 0 for a narrow table; a link is a node and a port of it, a receive channel a node and a channel of it.
pub record History : Type 0 where
  pub dimension : ℕ
  pub fold : ℕ
  pub blocked : List Link
  pub circuits : List Circuit
  pub armed : List (ℕ × ℕ)

-- History 4: an accepted make sets the dimension, with fold mask 0, and clears the rest.
abbrev pub new_history : ℕ → History
new_history D = record { dimension = D; fold = 0; blocked = []; circuits = []; armed = [] }

abbrev pub shape_on : History → Shape
shape_on h = record { dimension = h.dimension; fold = h.fold }

abbrev pub net_on : History → Network
net_on h = network (shape_on h)

-- a circuit's links
abbrev pub links_of : Network → Circuit → List Link
links_of N x = links N x.source x.ports

-- a circuit holds a link: it is on its path
unfoldable pub holds_link : Network → ℕ → ℕ → Circuit → Bool
holds_link N n p x = has_link (links_of N x) n p

-- a circuit holds a receive channel of a node
unfoldable pub holds_receive : ℕ → ℕ → Circuit → Bool
holds_receive n k x = eqb n x.target && eqb k x.receive

-- a circuit is that of a send channel
unfoldable pub belongs : ℕ → ℕ → Circuit → Bool
belongs s c x = eqb x.source s && eqb x.channel c

-- History 3: what the history says of a link, of a receive channel and of a send channel. Links that are not listed as blocked are enabled, held means on a
-- listed path or taken by a listed circuit, open means listed.
unfoldable pub enabled_on : History → ℕ → ℕ → Bool
enabled_on h n p = is_link_of (shape_on h) n p && not (has_link h.blocked n p)

unfoldable pub held_on : History → ℕ → ℕ → Bool
held_on h n p = any (holds_link (net_on h) n p) h.circuits

unfoldable pub free_on : History → ℕ → ℕ → Bool
free_on h n p = is_free (link_state (enabled_on h n p) (held_on h n p))

unfoldable pub taken_on : History → ℕ → ℕ → Bool
taken_on h n k = any (holds_receive n k) h.circuits

unfoldable pub open_on : History → ℕ → ℕ → Bool
open_on h s c = any (belongs s c) h.circuits

-- History 3: a receive channel of a node is armed if it is listed.
unfoldable pub armed_on : History → ℕ → ℕ → Bool
armed_on h n k = has_link h.armed n k

-- Cube 14, Searches 9: which receive channels are available, and the lowest of them
abbrev pub available_on : History → ℕ → ℕ → Bool
available_on h n k = armed_on h n k && not (taken_on h n k)

unfoldable pub receive_on : History → ℕ → Receive
receive_on h t = lowest_of (available_on h t)

-- History 3: a trace gives the ports of the circuit listed for a send channel.
unfoldable pub listed : List Circuit → ℕ → ℕ → Path
listed [] s c = []
listed (x ∷ xs) s c = cond (belongs s c x) x.ports (listed xs s c)

-- History 7: the send of an open, its search read on the record
unfoldable pub send_on : History → ℕ → ℕ → ℕ → ℕ → SendResult
send_on h s t y v = send y (shape_on h) (free_on h) (receive_on h t) s v t

-- whether waiting can help it: Searches 13, asked of the links that are not blocked
unfoldable pub waiting_on : History → ℕ → ℕ → ℕ → ℕ → Bool
waiting_on h s t y v = some_attempt (net_on h) (enabled_on h) s t (attempts (shape_on h) y v)

-- the history with other blocked links, with other circuits, or with other armed channels
abbrev pub with_blocked : History → List Link → History
with_blocked h ls = record { dimension = h.dimension; fold = h.fold; blocked = ls; circuits = h.circuits; armed = h.armed }

abbrev pub with_circuits : History → List Circuit → History
with_circuits h xs = record { dimension = h.dimension; fold = h.fold; blocked = h.blocked; circuits = xs; armed = h.armed }

abbrev pub with_armed : History → List (ℕ × ℕ) → History
with_armed h ls = record { dimension = h.dimension; fold = h.fold; blocked = h.blocked; circuits = h.circuits; armed = ls }

-- History 9: of every dimension whose fold bit changes, blocked partner links are listed no longer. Those of ports below D stay listed, and partner links of dimensions
-- that keep their bit.
abbrev pub keeps_bit : (fold mask port : ℕ) → Bool
keeps_bit fold mask p = eqb p (axis p) || beq (has fold (axis p)) (has mask (axis p))

unfoldable pub with_fold : History → ℕ → History
with_fold h mask = record { dimension = h.dimension; fold = mask; blocked = keep (λ l. keeps_bit h.fold mask l.1) h.blocked; circuits = h.circuits; armed = h.armed }

-- History 5, History 6: a list of links, or of receive channels, without one of them, also where it was added twice
unfoldable pub without_entry : ℕ → ℕ → List (ℕ × ℕ) → List (ℕ × ℕ)
without_entry n p ls = keep (λ l. not (eqb l.0 n && eqb l.1 p)) ls

-- History 7: an acknowledged open adds its circuit, which has the path and the receive channel of its outcome.
unfoldable pub with_opened : History → ℕ → ℕ → ℕ → Outcome → History
with_opened h s c t (acknowledged w k) = with_circuits h (record { source = s; channel = c; ports = w; target = t; receive = k } ∷ h.circuits)
with_opened h s c t route_rejected = h
with_opened h s c t receive_rejected = h

-- Books 4: the listed circuits in rising order of their numbers, each with its ports
unfoldable pub book_on : History → List BookCircuit
book_on h =
    map (λ (c : ℕ). record { number = c; ports = listed h.circuits (source_of c) (channel_of c) })
    (keep (λ c. open_on h (source_of c) (channel_of c)) (from 1 (circuit_count (shape_on h))))

-- what a call asks of the history, with what a job comes to
abbrev pub facts_on_with : (List Send → JobResult) → History → CallFacts
facts_on_with job h =
    record {
      dimension = h.dimension;
      fold = h.fold;
      held = held_on h;
      is_open = open_on h;
      is_taken = taken_on h;
      sends = send_on h;
      waiting = waiting_on h;
      path = listed h.circuits;
      book = book_on h;
      free = free_on h;
      available = available_on h;
      job = job;
    }

-- History 7: an open, with the path and the receive channel that its search takes on the record
abbrev pub opened_on : History → Send → History
opened_on h x = with_opened h x.source x.channel x.target (send_on h x.source x.target x.type x.vector).outcome

-- Jobs 4: the sends of a job, each entered in the history that the one before it left.
unfoldable pub job_on : History → List Send → Job History
job_on h xs = in_turn (single_open (facts_on_with no_job) opened_on) h xs

-- History 3: all that a call asks; so of 1 to 3 only the 2 of a make arises.
unfoldable pub facts_on : History → CallFacts
facts_on h = facts_on_with (λ xs. (job_on h xs).result) h

unfoldable pub stopped_on : History → Call → ℕ
stopped_on h a = refusal (call_tests (facts_on h) a)

-- History 4 to 9: what an accepted call changes.
unfoldable pub applied : History → Call → History
applied h (making D) = new_history D
applied h (blocking n p) = with_blocked h ((n, p) ∷ h.blocked)
applied h (unblocking n p) = with_blocked h (without_entry n p h.blocked)
applied h (opening s c t y v) = opened_on h (record { source = s; channel = c; target = t; type = y; vector = v })
-- History 8: and from the armed channels the one that the circuit had.
applied h (closing s c) =
    with_armed (with_circuits h (keep (λ x. not (belongs s c x)) h.circuits))
    (keep (λ l. not (any (λ x. belongs s c x && holds_receive l.0 l.1 x) h.circuits)) h.armed)
applied h (tracing s c buffer) = h
applied h (arming n k) = with_armed h ((n, k) ∷ h.armed)
applied h (disarming n k) = with_armed h (without_entry n k h.armed)
-- Jobs 8: a job counts as its single opens, or as nothing.
applied h (opening_all sends) = after_job h (job_on h (sends_in sends))
-- History 10: a book and a judging change nothing.
applied h (booking ports index) = h
applied h (judging ports index circuits hops) = h
applied h (folding mask) = with_fold h mask

-- a call entered in the history; History 10: a refused call changes nothing.
unfoldable pub history_step : History → Call → After History
history_step h a = call_on h (applied h a) (facts_on h) (stopped_on h a) a
