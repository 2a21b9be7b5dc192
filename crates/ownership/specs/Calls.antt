-- The calls on one table: what each is lent, how it is tested, and what it gives.
-- Assumes nothing.
use Rattle.std.specs.Prelude.{◌≡◌, Bool, true, false, cond, not, ◌&&◌, ◌||◌, List, [], ◌∷◌, ℕ, ◌-◌, ◌*◌, ◌^◌, ◌%◌, eqb, ltb, length, get_or, replicate}
use Rattle.common.specs.Lists.{any, from}
use Rattle.common.specs.Tests.{Test, test}
use Rattle.cube.specs.Bits.{has}
use Rattle.cube.specs.Axes.{present}
use Rattle.paths.specs.Network.{Path}
use Rattle.paths.specs.Send.{Outcome, acknowledged, route_rejected, receive_rejected, SendResult}
use Rattle.circuit_path.specs.Traced.{traced_into}
use Rattle.cube.specs.Cube.{cube_nodes}
use Rattle.layout.specs.Layout.{wide_ports}
use Rattle.soundness.specs.TableTests.{dimension_test}
use Rattle.book.specs.Book.{BookCircuit, port_bytes, index_bytes, hop_count, line_length}
use Rattle.judging.specs.Judged.{JudgeFacts, judge_tests}
use Rattle.ownership.specs.Sends.{Send, send_bytes, sends_in, JobResult}

-- Calls 1: a call with its arguments. A trace is lent a buffer, which comes with its bytes, a book and a judging two of them, and a job its list of sends.
pub data Call : Type 0 where
  making : (dimension : ℕ) → Call
  blocking : (node port : ℕ) → Call
  unblocking : (node port : ℕ) → Call
  opening : (source channel target type vector : ℕ) → Call
  closing : (source channel : ℕ) → Call
  tracing : (source channel : ℕ) → (buffer : List ℕ) → Call
  arming : (node channel : ℕ) → Call
  disarming : (node channel : ℕ) → Call
  opening_all : (sends : List ℕ) → Call
  booking : (ports index : List ℕ) → Call
  judging : (ports index : List ℕ) → (circuits hops : ℕ) → Call
  folding : (mask : ℕ) → Call

-- Folding 3: setting the fold mask is a call on a wide table; every other call is one on a table with any number q of ports to a node.
abbrev pub OfKind : ℕ → Call → Type 0
OfKind q (folding mask) = q ≡ wide_ports
OfKind q _ = Unit

-- a send of a job as the single open that it asks for
abbrev pub opening_of : Send → Call
opening_of x = opening x.source x.channel x.target x.type x.vector

-- what a call is, whatever it is made on
pub record CallForm : Type 0 where
  -- it makes the table, whatever that stored before
  pub is_making : Bool
  -- how many values it answers beside its number
  pub value_count : ℕ
  -- the buffers that it is lent beside the table, with their bytes
  pub buffers : List (List ℕ)

-- a call on a made table that answers the number alone and is lent nothing else
abbrev plain : CallForm
plain = record { is_making = false; value_count = 0; buffers = [] }

-- Calls 1: the values beside the number are hops, receive channel and scouts of an open; hops of a trace; sends of a job; circuits and hops of a book.
abbrev pub form : Call → CallForm
form (making D) = record { is_making = true; value_count = 0; buffers = [] }
form (blocking n p) = plain
form (unblocking n p) = plain
form (opening s c t y v) = record { is_making = false; value_count = 3; buffers = [] }
form (closing s c) = plain
form (tracing s c buffer) = record { is_making = false; value_count = 1; buffers = buffer ∷ [] }
form (arming n k) = plain
form (disarming n k) = plain
form (opening_all sends) = record { is_making = false; value_count = 1; buffers = sends ∷ [] }
form (booking ports index) = record { is_making = false; value_count = 2; buffers = ports ∷ index ∷ [] }
form (judging ports index circuits hops) = record { is_making = false; value_count = 0; buffers = ports ∷ index ∷ [] }
form (folding mask) = plain

abbrev pub lent : Call → List (List ℕ)
lent a = (form a).buffers

-- What a call gives: its number, the values beside it in the order in which it answers them, and the bytes of its buffers afterwards.
pub record CallResult : Type 0 where
  pub number : ℕ
  pub values : List ℕ
  pub buffers : List (List ℕ)

-- the values of an open; of a trace, its hops and its buffer
abbrev pub hops_of : CallResult → ℕ
hops_of g = get_or g.values 0 0

abbrev pub receive_of : CallResult → ℕ
receive_of g = get_or g.values 1 0

abbrev pub scouts_of : CallResult → ℕ
scouts_of g = get_or g.values 2 0

abbrev pub buffer_of : CallResult → List ℕ
buffer_of g = get_or g.buffers 0 []

-- the number alone; Calls 7: 0 of an accepted call
abbrev pub only : ℕ → CallResult
only n = record { number = n; values = []; buffers = [] }

-- Calls 6: refused, each value is 0, as many as the call answers. Calls 5: its buffers are as they were lent.
abbrev pub refused_with : ℕ → Call → CallResult
refused_with n a = record { number = n; values = replicate (form a).value_count 0; buffers = lent a }

-- Calls 14: what an open answers after its search. Refusals 10, Refusals 11 and Refusals 22 come with their scouts (Calls 6). Searches 13: a route
-- rejection is 10 where waiting can help, and 22 where it cannot.
unfoldable pub answered : (helps : Bool) → Outcome → ℕ → CallResult
answered helps (acknowledged w k) n = record { number = 0; values = length w ∷ k ∷ n ∷ []; buffers = [] }
answered helps route_rejected n = record { number = cond helps 10 22; values = 0 ∷ 0 ∷ n ∷ []; buffers = [] }
answered helps receive_rejected n = record { number = 11; values = 0 ∷ 0 ∷ n ∷ []; buffers = [] }

-- Calls 6: the numbers that come with the scouts of an open: success, and the three of a rejected search
unfoldable pub carries_scouts : ℕ → Bool
carries_scouts n = eqb n 0 || eqb n 10 || eqb n 11 || eqb n 22

-- What a call asks of whatever it is made on. Each is read off a table, and off the history (History 3).
pub record CallFacts : Type 0 where
  -- the dimension, and the fold mask
  pub dimension : ℕ
  pub fold : ℕ
  -- the link is held, by node and port
  pub held : ℕ → ℕ → Bool
  -- the send channel has an open circuit, by source and channel
  pub is_open : ℕ → ℕ → Bool
  -- the receive channel is held, by node and channel
  pub is_taken : ℕ → ℕ → Bool
  -- what a send comes to, by source, target, routing type and send vector
  pub sends : ℕ → ℕ → ℕ → ℕ → SendResult
  -- Searches 13: whether one of such a send's paths has no blocked link, so that waiting can help
  pub waiting : ℕ → ℕ → ℕ → ℕ → Bool
  -- the ports of the circuit of a send channel, by source and channel
  pub path : ℕ → ℕ → Path
  -- Books 4: all open circuits in rising order of their numbers, each with the ports of its path
  pub book : List BookCircuit
  -- for Judging 5 and Judging 6: whether a link is free, by node and port, and whether a receive channel is available, by node and channel
  pub free : ℕ → ℕ → Bool
  pub available : ℕ → ℕ → Bool
  -- Jobs 4: what sends opened one after another come to
  pub job : List Send → JobResult

-- a single call asks nothing of a job
abbrev pub no_job : List Send → JobResult
no_job xs = record { number = 0; sends = 0 }

-- Refusals 4, Refusals 5, Refusals 6. Folding 8: block and unblock take every port that the cube has, partners of folded dimensions too.
abbrev pub absent : CallFacts → ℕ → Bool
absent a n = not (ltb n (cube_nodes a.dimension))

abbrev pub node : CallFacts → ℕ → Test
node a n = test (absent a n) 4

abbrev pub nodes : CallFacts → ℕ → ℕ → Test
nodes a s t = test (absent a s || absent a t) 4

abbrev pub channel_number : ℕ → Test
channel_number c = test (ltb 7 c) 5

abbrev pub port : CallFacts → ℕ → Test
port a p = test (not (present a.dimension a.fold p)) 6

-- Refusals 7, Refusals 8
abbrev pub routing_type : ℕ → Test
routing_type y = test (not (eqb y 0 || (eqb y 1 || (eqb y 3 || eqb y 4)))) 7

abbrev pub send_vector : CallFacts → ℕ → Test
send_vector a v = test (eqb v 0 || not (ltb v (2 ^ a.dimension))) 8

-- Refusals 9, Refusals 12, Refusals 13, Refusals 14
abbrev pub in_use : CallFacts → ℕ → ℕ → Test
in_use a s c = test (a.is_open s c) 9

abbrev pub no_circuit : CallFacts → ℕ → ℕ → Test
no_circuit a s c = test (not (a.is_open s c)) 12

abbrev pub link_is_held : CallFacts → ℕ → ℕ → Test
link_is_held a n p = test (a.held n p) 13

abbrev pub short_buffer : List ℕ → Test
short_buffer buffer = test (ltb (length buffer) 9) 14

-- Refusals 21
abbrev pub channel_held : CallFacts → ℕ → ℕ → Test
channel_held a n k = test (a.is_taken n k) 21

-- Refusals 28
abbrev pub list_length : List ℕ → Test
list_length sends = test (not (eqb (length sends % send_bytes) 0) || ltb 640 (length sends)) 28

-- Refusals 23, Books 7
abbrev pub book_short : CallFacts → List ℕ → List ℕ → Test
book_short a ports index = test (ltb (length ports) (hop_count a.book) || ltb (length index) (line_length * length a.book)) 23

-- Refusals 6, of a fold
abbrev pub fold_bits : CallFacts → ℕ → Test
fold_bits a mask = test (not (ltb mask (2 ^ a.dimension))) 6

-- Refusals 13, of a fold: a mask would unfold a dimension, and a node's link out of its partner port is held
abbrev pub unfolds : CallFacts → ℕ → ℕ → Bool
unfolds a mask p = has a.fold p && not (has mask p)

abbrev pub partner_held : CallFacts → ℕ → Test
partner_held a mask = test (any (λ p. unfolds a mask p && any (λ n. a.held n (17 - p)) (from 0 (cube_nodes a.dimension))) (from 0 a.dimension)) 13

-- Judging 1: what judging a book asks
abbrev pub judged_by : CallFacts → JudgeFacts
judged_by a = record { dimension = a.dimension; fold = a.fold; is_open = a.is_open; free = a.free; available = a.available }

-- Calls 4: the tests of each call in their order, as Calls 1, Jobs 3, Books 7, Judging 3 and Folding 4 list them. Those of the lent table come before them (OnTable).
unfoldable pub call_tests : CallFacts → Call → List Test
call_tests a (making D) = dimension_test D ∷ []
call_tests a (blocking n p) = node a n ∷ port a p ∷ link_is_held a n p ∷ []
call_tests a (unblocking n p) = node a n ∷ port a p ∷ []
call_tests a (opening s c t y v) = nodes a s t ∷ channel_number c ∷ routing_type y ∷ send_vector a v ∷ in_use a s c ∷ []
call_tests a (closing s c) = node a s ∷ channel_number c ∷ no_circuit a s c ∷ []
call_tests a (tracing s c buffer) = node a s ∷ channel_number c ∷ no_circuit a s c ∷ short_buffer buffer ∷ []
call_tests a (arming n k) = node a n ∷ channel_number k ∷ []
call_tests a (disarming n k) = node a n ∷ channel_number k ∷ channel_held a n k ∷ []
call_tests a (opening_all sends) = list_length sends ∷ []
call_tests a (booking ports index) = book_short a ports index ∷ []
call_tests a (judging ports index circuits hops) = judge_tests (judged_by a) ports index circuits hops
call_tests a (folding mask) = fold_bits a mask ∷ partner_held a mask ∷ []

-- What a call gives where no test applies. Calls 16: a trace, its hops and its ports. Jobs 5, Jobs 6: a job, 0 and the number of sends, or the number of the first that is
-- refused and its place. Books 5, Books 6: a book, both counts, and ports and index at the front of the buffers. Judging 2: a yes is the number 0 alone.
unfoldable pub result_of : CallFacts → Call → CallResult
result_of a (making D) = only 0
result_of a (blocking n p) = only 0
result_of a (unblocking n p) = only 0
result_of a (opening s c t y v) = let x = a.sends s t y v in answered (a.waiting s t y v) x.outcome x.scouts
result_of a (closing s c) = only 0
result_of a (tracing s c buffer) = let w = a.path s c in record { number = 0; values = length w ∷ []; buffers = traced_into w buffer ∷ [] }
result_of a (arming n k) = only 0
result_of a (disarming n k) = only 0
result_of a (opening_all sends) = let j = a.job (sends_in sends) in record { number = j.number; values = j.sends ∷ []; buffers = sends ∷ [] }
result_of a (booking ports index) =
    record {
      number = 0;
      values = length a.book ∷ hop_count a.book ∷ [];
      buffers = traced_into (port_bytes a.book) ports ∷ traced_into (index_bytes a.book) index ∷ [];
    }
result_of a (judging ports index circuits hops) = record { number = 0; values = []; buffers = ports ∷ index ∷ [] }
result_of a (folding mask) = only 0

-- what a call leaves of what it is made on, the bytes of a table or the history, and what it gives
pub record After (S : Type 0) : Type 0 where
  pub state : S
  pub result : CallResult

-- A call on a state whose facts are a, and whose tests answer n, 0 where none applies: what it gives, and the state that it leaves. That is `after` where the call
-- is accepted, and so answers 0. Else it is `before`, also where the search is rejected (Calls 5).
unfoldable pub call_on : {S : Type 0} → S → S → CallFacts → ℕ → Call → After S
call_on before after a n call =
    let g = cond (eqb n 0) (result_of a call) (refused_with n call) in record { state = cond (eqb g.number 0) after before; result = g }
