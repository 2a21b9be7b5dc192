-- Examples 10, computed: the bytes of its input and of its output. And Examples 30, of folding: both links of a pair are used, the second path is printed by a
-- letter, and the mask cannot be taken back.
-- Assumes nothing.
use Rattle.std.specs.Prelude.{◌≡◌, refl, List, [], ◌∷◌, ℕ}
use Rattle.common.specs.Lists.{keep, from, any, lowest}
use Rattle.common.specs.Tests.{refusal}
use Rattle.cube.specs.Bits.{has, flip}
use Rattle.cube.specs.Cube.{uphill}
use Rattle.cube.specs.Axes.{axis, present}
use Rattle.cube.specs.Helical.{helical}
use Rattle.paths.specs.Network.{offered, end, links, has_link, link_state, is_free, free_path}
use Rattle.paths.specs.Pass.{over, ways, beginnings, scan, whole, pass, scouts}
use Rattle.paths.specs.Send.{outcome_of_path, outcome, attempted, send_goes_on, runs, lowest_of}
use Rattle.paths.specs.CubeNetwork.{network, ports, send_ports, other_ports, attempts, send}
use Rattle.circuit_path.specs.Traced.{traced_into}
use Rattle.ownership.specs.Calls.{answered, carries_scouts, call_tests, result_of, call_on}
use Rattle.ownership.specs.History.{holds_link, holds_receive, belongs, enabled_on, held_on, free_on, taken_on, open_on, armed_on, receive_on, listed, facts_on, stopped_on, send_on, with_opened, with_fold, applied, history_step}
use Rattle.text.specs.Text.{digits, decimal, all_digits, value, leading_zero, field_number}
use Rattle.text.specs.Lines.{on_first, cut, lines, fields}
use Rattle.input_line.specs.Line.{in_front, numbers, numbers_of, asked, by_letter, with_numbers, of_fields, asks}
use Rattle.text.specs.Row.{port_character, path_characters, field_bytes, in_order, spaced, ended, row_text, rows_text}
use Rattle.printed_line.specs.PrintedLine.{call_row, unreadable, traced_ports, row_for, state_after}
use Rattle.listing.specs.Listing.{rows, header, too_long, listing, recorded}

abbrev pub input : List ℕ
input =
    -- F 3
    70 ∷ 32 ∷ 51 ∷ 10 ∷
    -- R 7 0
    82 ∷ 32 ∷ 55 ∷ 32 ∷ 48 ∷ 10 ∷
    -- B 1 2
    66 ∷ 32 ∷ 49 ∷ 32 ∷ 50 ∷ 10 ∷
    -- B 3 2
    66 ∷ 32 ∷ 51 ∷ 32 ∷ 50 ∷ 10 ∷
    -- S 0 0 7 0 7
    83 ∷ 32 ∷ 48 ∷ 32 ∷ 48 ∷ 32 ∷ 55 ∷ 32 ∷ 48 ∷ 32 ∷ 55 ∷ 10 ∷
    -- C 0 0
    67 ∷ 32 ∷ 48 ∷ 32 ∷ 48 ∷ 10 ∷
    -- C 0 0
    67 ∷ 32 ∷ 48 ∷ 32 ∷ 48 ∷ 10 ∷
    []

abbrev pub output : List ℕ
output =
    -- line call answer node channel receive scouts ports
    108 ∷ 105 ∷ 110 ∷ 101 ∷ 32 ∷ 99 ∷ 97 ∷ 108 ∷ 108 ∷ 32 ∷ 97 ∷ 110 ∷ 115 ∷ 119 ∷ 101 ∷ 114 ∷ 32 ∷ 110 ∷ 111 ∷ 100 ∷ 101 ∷ 32 ∷ 99 ∷ 104 ∷ 97 ∷ 110 ∷ 110 ∷ 101 ∷ 108 ∷ 32 ∷ 114 ∷ 101 ∷ 99 ∷ 101 ∷ 105 ∷ 118 ∷ 101 ∷ 32 ∷ 115 ∷ 99 ∷ 111 ∷ 117 ∷ 116 ∷ 115 ∷ 32 ∷ 112 ∷ 111 ∷ 114 ∷ 116 ∷ 115 ∷ 10 ∷
    -- 1 F 0 - - - - -
    49 ∷ 32 ∷ 70 ∷ 32 ∷ 48 ∷ 32 ∷ 45 ∷ 32 ∷ 45 ∷ 32 ∷ 45 ∷ 32 ∷ 45 ∷ 32 ∷ 45 ∷ 10 ∷
    -- 2 R 0 7 0 - - -
    50 ∷ 32 ∷ 82 ∷ 32 ∷ 48 ∷ 32 ∷ 55 ∷ 32 ∷ 48 ∷ 32 ∷ 45 ∷ 32 ∷ 45 ∷ 32 ∷ 45 ∷ 10 ∷
    -- 3 B 0 1 - - - 2
    51 ∷ 32 ∷ 66 ∷ 32 ∷ 48 ∷ 32 ∷ 49 ∷ 32 ∷ 45 ∷ 32 ∷ 45 ∷ 32 ∷ 45 ∷ 32 ∷ 50 ∷ 10 ∷
    -- 4 B 0 3 - - - 2
    52 ∷ 32 ∷ 66 ∷ 32 ∷ 48 ∷ 32 ∷ 51 ∷ 32 ∷ 45 ∷ 32 ∷ 45 ∷ 32 ∷ 45 ∷ 32 ∷ 50 ∷ 10 ∷
    -- 5 S 0 0 0 0 5 120
    53 ∷ 32 ∷ 83 ∷ 32 ∷ 48 ∷ 32 ∷ 48 ∷ 32 ∷ 48 ∷ 32 ∷ 48 ∷ 32 ∷ 53 ∷ 32 ∷ 49 ∷ 50 ∷ 48 ∷ 10 ∷
    -- 6 C 0 0 0 - - -
    54 ∷ 32 ∷ 67 ∷ 32 ∷ 48 ∷ 32 ∷ 48 ∷ 32 ∷ 48 ∷ 32 ∷ 45 ∷ 32 ∷ 45 ∷ 32 ∷ 45 ∷ 10 ∷
    -- 7 C 12 0 0 - - -
    55 ∷ 32 ∷ 67 ∷ 32 ∷ 49 ∷ 50 ∷ 32 ∷ 48 ∷ 32 ∷ 48 ∷ 32 ∷ 45 ∷ 32 ∷ 45 ∷ 32 ∷ 45 ∷ 10 ∷
    []

pub printed_example : recorded input ≡ output
unfolding history_step stopped_on call_tests refusal facts_on open_on held_on taken_on any holds_link holds_receive belongs enabled_on free_on link_state is_free armed_on receive_on lowest_of lowest listed send_on with_opened applied result_of call_on carries_scouts traced_into send attempts attempted network ports send_ports other_ports present axis keep from has flip uphill helical offered end links has_link free_path over ways beginnings scan whole pass scouts outcome_of_path outcome send_goes_on runs answered digits decimal all_digits value leading_zero field_number on_first cut lines fields in_front numbers numbers_of asked by_letter with_numbers of_fields asks port_character path_characters field_bytes in_order spaced ended row_text rows_text call_row unreadable traced_ports row_for state_after rows header too_long listing recorded
printed_example = refl

abbrev pub folding_input : List ℕ
folding_input =
    -- F 1
    70 ∷ 32 ∷ 49 ∷ 10 ∷
    -- M 1
    77 ∷ 32 ∷ 49 ∷ 10 ∷
    -- R 1 0
    82 ∷ 32 ∷ 49 ∷ 32 ∷ 48 ∷ 10 ∷
    -- R 1 1
    82 ∷ 32 ∷ 49 ∷ 32 ∷ 49 ∷ 10 ∷
    -- S 0 0 1 0 1
    83 ∷ 32 ∷ 48 ∷ 32 ∷ 48 ∷ 32 ∷ 49 ∷ 32 ∷ 48 ∷ 32 ∷ 49 ∷ 10 ∷
    -- S 0 1 1 0 1
    83 ∷ 32 ∷ 48 ∷ 32 ∷ 49 ∷ 32 ∷ 49 ∷ 32 ∷ 48 ∷ 32 ∷ 49 ∷ 10 ∷
    -- M 0
    77 ∷ 32 ∷ 48 ∷ 10 ∷
    -- M 2
    77 ∷ 32 ∷ 50 ∷ 10 ∷
    []

abbrev pub folding_output : List ℕ
folding_output =
    -- line call answer node channel receive scouts ports
    108 ∷ 105 ∷ 110 ∷ 101 ∷ 32 ∷ 99 ∷ 97 ∷ 108 ∷ 108 ∷ 32 ∷ 97 ∷ 110 ∷ 115 ∷ 119 ∷ 101 ∷ 114 ∷ 32 ∷ 110 ∷ 111 ∷ 100 ∷ 101 ∷ 32 ∷ 99 ∷ 104 ∷ 97 ∷ 110 ∷ 110 ∷ 101 ∷ 108 ∷ 32 ∷ 114 ∷ 101 ∷ 99 ∷ 101 ∷ 105 ∷ 118 ∷ 101 ∷ 32 ∷ 115 ∷ 99 ∷ 111 ∷ 117 ∷ 116 ∷ 115 ∷ 32 ∷ 112 ∷ 111 ∷ 114 ∷ 116 ∷ 115 ∷ 10 ∷
    -- 1 F 0 - - - - -
    49 ∷ 32 ∷ 70 ∷ 32 ∷ 48 ∷ 32 ∷ 45 ∷ 32 ∷ 45 ∷ 32 ∷ 45 ∷ 32 ∷ 45 ∷ 32 ∷ 45 ∷ 10 ∷
    -- 2 M 0 - - - - -
    50 ∷ 32 ∷ 77 ∷ 32 ∷ 48 ∷ 32 ∷ 45 ∷ 32 ∷ 45 ∷ 32 ∷ 45 ∷ 32 ∷ 45 ∷ 32 ∷ 45 ∷ 10 ∷
    -- 3 R 0 1 0 - - -
    51 ∷ 32 ∷ 82 ∷ 32 ∷ 48 ∷ 32 ∷ 49 ∷ 32 ∷ 48 ∷ 32 ∷ 45 ∷ 32 ∷ 45 ∷ 32 ∷ 45 ∷ 10 ∷
    -- 4 R 0 1 1 - - -
    52 ∷ 32 ∷ 82 ∷ 32 ∷ 48 ∷ 32 ∷ 49 ∷ 32 ∷ 49 ∷ 32 ∷ 45 ∷ 32 ∷ 45 ∷ 32 ∷ 45 ∷ 10 ∷
    -- 5 S 0 0 0 0 1 0
    53 ∷ 32 ∷ 83 ∷ 32 ∷ 48 ∷ 32 ∷ 48 ∷ 32 ∷ 48 ∷ 32 ∷ 48 ∷ 32 ∷ 49 ∷ 32 ∷ 48 ∷ 10 ∷
    -- 6 S 0 0 1 1 1 h
    54 ∷ 32 ∷ 83 ∷ 32 ∷ 48 ∷ 32 ∷ 48 ∷ 32 ∷ 49 ∷ 32 ∷ 49 ∷ 32 ∷ 49 ∷ 32 ∷ 104 ∷ 10 ∷
    -- 7 M 13 - - - - -
    55 ∷ 32 ∷ 77 ∷ 32 ∷ 49 ∷ 51 ∷ 32 ∷ 45 ∷ 32 ∷ 45 ∷ 32 ∷ 45 ∷ 32 ∷ 45 ∷ 32 ∷ 45 ∷ 10 ∷
    -- 8 M 6 - - - - -
    56 ∷ 32 ∷ 77 ∷ 32 ∷ 54 ∷ 32 ∷ 45 ∷ 32 ∷ 45 ∷ 32 ∷ 45 ∷ 32 ∷ 45 ∷ 32 ∷ 45 ∷ 10 ∷
    []

pub folding_example : recorded folding_input ≡ folding_output
unfolding history_step stopped_on call_tests refusal facts_on open_on held_on taken_on any holds_link holds_receive belongs enabled_on free_on link_state is_free armed_on receive_on lowest_of lowest listed send_on with_opened applied with_fold result_of call_on carries_scouts traced_into send attempts attempted network ports send_ports other_ports present axis keep from has flip uphill helical offered end links has_link free_path over ways beginnings scan whole pass scouts outcome_of_path outcome send_goes_on runs answered digits decimal all_digits value leading_zero field_number on_first cut lines fields in_front numbers numbers_of asked by_letter with_numbers of_fields asks port_character path_characters field_bytes in_order spaced ended row_text rows_text call_row unreadable traced_ports row_for state_after rows header too_long listing recorded
folding_example = refl
