-- Books of a small history, computed: in order of circuit number whatever was opened first, with room to spare, with too little, and of no circuit.
-- Assumes nothing.
use Rattle.std.specs.Prelude.{◌≡◌, refl, List, [], ◌∷◌, replicate}
use Rattle.common.specs.Lists.{keep, from, any, lowest}
use Rattle.common.specs.Tests.{refusal}
use Rattle.cube.specs.Bits.{has, flip}
use Rattle.cube.specs.Cube.{uphill}
use Rattle.cube.specs.Axes.{axis, present}
use Rattle.cube.specs.Helical.{helical}
use Rattle.paths.specs.Network.{offered, end, links, has_link, link_state, is_free, free_path}
use Rattle.paths.specs.Pass.{over, ways, beginnings, scan, whole, pass, scouts}
use Rattle.paths.specs.Send.{outcome_of_path, outcome, attempted, send_goes_on, runs, lowest_of}
use Rattle.paths.specs.CubeNetwork.{network, ports, send_ports, other_ports, attempts, send}
use Rattle.paths.specs.Waiting.{finds_path, some_attempt}
use Rattle.circuit_path.specs.Traced.{traced_into}
use Rattle.book.specs.Book.{port_bytes, word_bytes, index_from}
use Rattle.ownership.specs.Calls.{making, opening, arming, booking, CallResult, answered, call_tests, result_of, call_on}
use Rattle.ownership.specs.History.{History, holds_link, holds_receive, belongs, enabled_on, held_on, free_on, taken_on, open_on, armed_on, receive_on, listed, waiting_on, book_on, facts_on, stopped_on, send_on, with_opened, applied, history_step, new_history}
use Rattle.ownership.specs.Agrees.{history_after, history_results, after_calls, call_results}

-- Dimension 2: send channel 1 of node 0, circuit 2, to node 3 by way of node 2, and after it channel 0, circuit 1, to node 1.
abbrev opened : History
opened = history_after (new_history 0) (making 2 ∷ arming 1 0 ∷ arming 3 0 ∷ opening 0 1 3 0 2 ∷ opening 0 0 1 0 1 ∷ [])

abbrev books : List CallResult
books =
    history_results opened
    (booking (replicate 4 9) (replicate 14 9) ∷ booking (replicate 3 9) (replicate 11 9) ∷ booking (replicate 2 9) (replicate 12 9) ∷ [])

-- circuit 1 over port 0, then circuit 2 over ports 1 and 0; what lies behind keeps its content. A buffer that is one byte short, of either, is 23, and both stay.
two_circuits_lem : books
    ≡ record {
      number = 0;
      values = 2 ∷ 3 ∷ [];
      buffers = (0 ∷ 1 ∷ 0 ∷ 9 ∷ []) ∷ (1 ∷ 0 ∷ 0 ∷ 0 ∷ 1 ∷ 0 ∷ 2 ∷ 0 ∷ 1 ∷ 0 ∷ 2 ∷ 0 ∷ 9 ∷ 9 ∷ []) ∷ [];
    }
    ∷ record { number = 23; values = 0 ∷ 0 ∷ []; buffers = replicate 3 9 ∷ replicate 11 9 ∷ [] }
    ∷ record { number = 23; values = 0 ∷ 0 ∷ []; buffers = replicate 2 9 ∷ replicate 12 9 ∷ [] }
    ∷ []
unfolding after_calls call_results history_step stopped_on call_tests refusal facts_on open_on held_on taken_on armed_on any holds_link holds_receive belongs enabled_on free_on link_state is_free receive_on lowest_of lowest send_on waiting_on some_attempt finds_path with_opened applied result_of call_on send attempts attempted network ports send_ports other_ports present axis keep from has flip uphill helical offered end links has_link free_path over ways beginnings scan whole pass scouts outcome_of_path outcome send_goes_on runs answered book_on listed port_bytes word_bytes index_from traced_into
two_circuits_lem = refl

-- with no circuit nothing is written, and no buffer is too short
no_circuit_lem : history_results (new_history 1) (booking [] [] ∷ []) ≡ record { number = 0; values = 0 ∷ 0 ∷ []; buffers = [] ∷ [] ∷ [] } ∷ []
unfolding call_results history_step stopped_on call_tests refusal facts_on open_on any result_of call_on applied keep from book_on port_bytes index_from traced_into
no_circuit_lem = refl
