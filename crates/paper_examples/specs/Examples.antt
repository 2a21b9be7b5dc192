-- Examples 1 to 8 as a single list of inputs and results under one claim that computes (Forms 14), every channel armed first. What a table gives is what the
-- history gives (demand_3), so the calls are computed on the history.
-- Assumes nothing.
use Rattle.std.specs.Prelude.{◌≡◌, refl, List, [], ◌∷◌, ◌++◌, map, ℕ, ◌*◌, replicate}
use Rattle.common.specs.Lists.{keep, from, any, lowest}
use Rattle.common.specs.Tests.{refusal}
use Rattle.cube.specs.Bits.{has, flip}
use Rattle.cube.specs.Cube.{channels, cube_nodes, uphill}
use Rattle.cube.specs.Axes.{axis, present}
use Rattle.cube.specs.Helical.{helical}
use Rattle.paths.specs.Network.{offered, end, links, has_link, link_state, is_free, free_path}
use Rattle.paths.specs.Pass.{over, ways, beginnings, scan, whole, pass, scouts}
use Rattle.paths.specs.Send.{outcome_of_path, outcome, attempted, send_goes_on, runs, lowest_of}
use Rattle.paths.specs.CubeNetwork.{network, ports, send_ports, other_ports, attempts, send}
use Rattle.command_word.specs.Commands.{commands, values_in, values, reserved}
use Rattle.command_word.specs.Word.{read_tests, reading, read_word, write_tests, writing, write_word}
use Rattle.circuit_path.specs.Traced.{traced_into}
use Rattle.ownership.specs.Calls.{Call, making, blocking, opening, closing, tracing, arming, disarming, CallResult, answered, call_tests, result_of, call_on}
use Rattle.ownership.specs.History.{History, holds_link, holds_receive, belongs, enabled_on, held_on, free_on, taken_on, open_on, armed_on, receive_on, listed, waiting_on, facts_on, stopped_on, send_on, with_opened, applied, history_step, new_history}
use Rattle.paths.specs.Waiting.{finds_path, some_attempt}
use Rattle.ownership.specs.FromTable.{links_out}
use Rattle.ownership.specs.Agrees.{history_results, call_results}

-- an input: a list of calls, a word to read, a command and a carried number to write
pub data Input : Type 0 where
  calls : List Call → Input
  read : ℕ → Input
  write : ℕ → ℕ → Input

-- the history before a making does not matter
abbrev pub before : History
before = new_history 0

-- numbers beside no buffer
abbrev alone : List ℕ → List (List ℕ)
alone ns = ns ∷ []

-- what a call gave: number and values, and behind them its buffers
abbrev pub shown : CallResult → List (List ℕ)
shown g = (g.number ∷ g.values) ∷ g.buffers

-- what each call of an input gave, or a word
abbrev pub result : Input → List (List (List ℕ))
result (calls cs) = map shown (history_results before cs)
result (read w) = alone ((read_word w).number ∷ (read_word w).command ∷ (read_word w).carried ∷ []) ∷ []
result (write c k) = alone ((write_word c k).number ∷ (write_word c k).word ∷ []) ∷ []

-- a trace of send channel c of node 0, into nine bytes that are 9
abbrev trace : ℕ → Call
trace c = tracing 0 c (9 ∷ 9 ∷ 9 ∷ 9 ∷ 9 ∷ 9 ∷ 9 ∷ 9 ∷ 9 ∷ [])

-- every channel armed: the eight receive channels of each node of a cube
abbrev arm_all : ℕ → List Call
arm_all D = map (λ l. arming l.0 l.1) (links_out (from 0 (cube_nodes D)) (from 0 channels))

abbrev pub inputs : List Input
inputs =
    -- 1: D 3, 0 to 7, vector 7, nothing blocked
    calls (making 3 ∷ arm_all 3 ++ opening 0 0 7 0 7 ∷ trace 0 ∷ [])
    -- 2: the patent's figure 7, links 1 to 5 and 3 to 7 blocked
    ∷ calls (making 3 ∷ arm_all 3 ++ blocking 1 2 ∷ blocking 3 2 ∷ opening 0 0 7 0 7 ∷ trace 0 ∷ [])
    -- 3: D 1, node 0 to itself, vector 1
    ∷ calls (making 1 ∷ arm_all 1 ++ opening 0 0 0 0 1 ∷ trace 0 ∷ [])
    -- 4: D 2, 0 to 1, vector 2
    ∷ calls (making 2 ∷ arm_all 2 ++ opening 0 0 1 0 2 ∷ trace 0 ∷ [])
    -- 5: as 4, link 2 to 3 blocked
    ∷ calls (making 2 ∷ arm_all 2 ++ blocking 2 0 ∷ opening 0 0 1 0 2 ∷ trace 0 ∷ [])
    -- 6: D 2, 0 to 1, vector 1, link 0 to 1 blocked; type 0, and type 4
    ∷ calls (making 2 ∷ arm_all 2 ++ blocking 0 0 ∷ opening 0 0 1 0 1 ∷ [])
    ∷ calls (making 2 ∷ arm_all 2 ++ blocking 0 0 ∷ opening 0 0 1 4 1 ∷ trace 0 ∷ [])
    -- 7: D 1, 0 to 1, vector 1, on channel 0, then on channel 1; after closing channel 0, channel 1. The close disarms receive channel 0, so that the last
    -- open takes receive channel 1.
    ∷ calls (making 1 ∷ arm_all 1 ++ opening 0 0 1 0 1 ∷ opening 0 1 1 0 1 ∷ closing 0 0 ∷ opening 0 1 1 0 1 ∷ [])
    -- 8: words read and written
    ∷ read 2175 ∷ write 1 0 ∷ read 2437 ∷ read 3649 ∷ read 3136 ∷ read 2240
    ∷ []

-- a call that answers the number alone; an open; a trace with its buffer
abbrev answered_zero : List (List ℕ)
answered_zero = alone (0 ∷ [])

abbrev open_answered : ℕ → ℕ → ℕ → ℕ → List (List ℕ)
open_answered number hops receive scouts = alone (number ∷ hops ∷ receive ∷ scouts ∷ [])

abbrev trace_answered : ℕ → List ℕ → List (List ℕ)
trace_answered hops buffer = (0 ∷ hops ∷ []) ∷ buffer ∷ []

-- every arming answers 0
abbrev arming_answered : ℕ → List (List (List ℕ))
arming_answered D = replicate (channels * cube_nodes D) answered_zero

abbrev pub results : List (List (List (List ℕ)))
results =
    (answered_zero ∷ arming_answered 3 ++ open_answered 0 3 0 3 ∷ trace_answered 3 (0 ∷ 1 ∷ 2 ∷ 9 ∷ 9 ∷ 9 ∷ 9 ∷ 9 ∷ 9 ∷ []) ∷ [])
    ∷ (answered_zero ∷ arming_answered 3 ++ answered_zero ∷ answered_zero ∷ open_answered 0 3 0 5 ∷ trace_answered 3 (1 ∷ 2 ∷ 0 ∷ 9 ∷ 9 ∷ 9 ∷ 9 ∷ 9 ∷ 9 ∷ []) ∷ [])
    ∷ (answered_zero ∷ arming_answered 1 ++ open_answered 0 2 0 2 ∷ trace_answered 2 (0 ∷ 0 ∷ 9 ∷ 9 ∷ 9 ∷ 9 ∷ 9 ∷ 9 ∷ 9 ∷ []) ∷ [])
    ∷ (answered_zero ∷ arming_answered 2 ++ open_answered 0 3 0 3 ∷ trace_answered 3 (1 ∷ 0 ∷ 1 ∷ 9 ∷ 9 ∷ 9 ∷ 9 ∷ 9 ∷ 9 ∷ []) ∷ [])
    ∷ (answered_zero ∷ arming_answered 2 ++ answered_zero ∷ open_answered 0 3 0 3 ∷ trace_answered 3 (1 ∷ 1 ∷ 0 ∷ 9 ∷ 9 ∷ 9 ∷ 9 ∷ 9 ∷ 9 ∷ []) ∷ [])
    ∷ (answered_zero ∷ arming_answered 2 ++ answered_zero ∷ open_answered 22 0 0 0 ∷ [])
    ∷ (answered_zero ∷ arming_answered 2 ++ answered_zero ∷ open_answered 0 3 0 3 ∷ trace_answered 3 (1 ∷ 0 ∷ 1 ∷ 9 ∷ 9 ∷ 9 ∷ 9 ∷ 9 ∷ 9 ∷ []) ∷ [])
    ∷ (answered_zero ∷ arming_answered 1 ++ open_answered 0 1 0 1 ∷ open_answered 10 0 0 0 ∷ answered_zero ∷ open_answered 0 1 1 1 ∷ [])
    ∷ (alone (0 ∷ 1 ∷ 0 ∷ []) ∷ [])
    ∷ (alone (0 ∷ 2112 ∷ []) ∷ [])
    ∷ (alone (0 ∷ 6 ∷ 5 ∷ []) ∷ [])
    ∷ (alone (0 ∷ 9 ∷ 1 ∷ []) ∷ [])
    ∷ (alone (17 ∷ 0 ∷ 0 ∷ []) ∷ [])
    ∷ (alone (18 ∷ 0 ∷ 0 ∷ []) ∷ [])
    ∷ []

pub examples : map result inputs ≡ results
unfolding call_results history_step stopped_on call_tests refusal facts_on open_on held_on taken_on armed_on links_out any holds_link holds_receive belongs enabled_on free_on link_state is_free receive_on lowest_of lowest listed send_on waiting_on some_attempt finds_path with_opened applied result_of call_on traced_into send attempts attempted network ports send_ports other_ports present axis keep from has flip uphill helical offered end links has_link free_path over ways beginnings scan whole pass scouts outcome_of_path outcome send_goes_on runs answered commands values_in values reserved read_tests reading read_word write_tests writing write_word
examples = refl

-- Examples 25: a channel must be armed to be taken; while it is held it is not disarmed, and 21 comes behind 5; closing disarms it.
armed_once : map shown (history_results before
    (making 3 ∷ opening 0 0 7 0 7 ∷ arming 7 0 ∷ opening 0 0 7 0 7 ∷ disarming 7 8 ∷ disarming 7 0 ∷ closing 0 0 ∷ opening 0 0 7 0 7 ∷ []))
    ≡ answered_zero ∷ open_answered 11 0 0 3 ∷ answered_zero ∷ open_answered 0 3 0 3 ∷ alone (5 ∷ []) ∷ alone (21 ∷ []) ∷ answered_zero ∷ open_answered 11 0 0 3 ∷ []
unfolding call_results history_step stopped_on call_tests refusal facts_on open_on held_on taken_on armed_on any holds_link holds_receive belongs enabled_on free_on link_state is_free receive_on lowest_of lowest listed send_on waiting_on some_attempt finds_path with_opened applied result_of call_on traced_into send attempts attempted network ports send_ports other_ports present axis keep from has flip uphill helical offered end links has_link free_path over ways beginnings scan whole pass scouts outcome_of_path outcome send_goes_on runs answered
armed_once = refl
