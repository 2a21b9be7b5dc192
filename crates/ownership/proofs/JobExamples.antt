-- Small jobs, computed: how a list is cut into sends, at which lengths it is refused, and what jobs come to in the history.
-- Assumes nothing.
use Rattle.std.specs.Prelude.{◌≡◌, refl, List, [], ◌∷◌, ◌++◌, map, ℕ, replicate}
use Rattle.common.specs.Lists.{keep, from, any, lowest}
use Rattle.common.specs.Tests.{refusal}
use Rattle.cube.specs.Bits.{has, flip}
use Rattle.cube.specs.Cube.{uphill}
use Rattle.cube.specs.Axes.{axis, present}
use Rattle.cube.specs.Helical.{helical}
use Rattle.soundness.specs.TableTests.{table_tests}
use Rattle.paths.specs.Network.{offered, end, links, has_link, link_state, is_free, free_path}
use Rattle.paths.specs.Pass.{over, ways, beginnings, scan, whole, pass, scouts}
use Rattle.paths.specs.Send.{outcome_of_path, outcome, attempted, send_goes_on, runs, lowest_of}
use Rattle.paths.specs.CubeNetwork.{network, ports, send_ports, other_ports, attempts, send}
use Rattle.paths.specs.Waiting.{finds_path, some_attempt}
use Rattle.ownership.specs.Sends.{send_at, sends_in}
use Rattle.ownership.specs.Calls.{making, opening, arming, opening_all, CallResult, answered, call_tests, result_of, call_on}
use Rattle.ownership.specs.InTurn.{in_turn, after_job}
use Rattle.ownership.specs.History.{History, holds_link, holds_receive, belongs, enabled_on, held_on, free_on, taken_on, open_on, armed_on, receive_on, waiting_on, facts_on, stopped_on, send_on, with_opened, job_on, applied, history_step, new_history}
use Rattle.ownership.specs.OnTable.{lent_tests, stopped_at}
use Rattle.ownership.specs.Agrees.{history_after, history_results, after_calls, call_results}

-- a send as the ten bytes of a list, where its numbers are below 256
abbrev ten : ℕ → ℕ → ℕ → ℕ → ℕ → List ℕ
ten s c t y v = s ∷ 0 ∷ c ∷ 0 ∷ t ∷ 0 ∷ y ∷ 0 ∷ v ∷ 0 ∷ []

-- Jobs 2
two_sends : sends_in (1 ∷ 2 ∷ 3 ∷ 4 ∷ 5 ∷ 6 ∷ 7 ∷ 8 ∷ 9 ∷ 10 ∷ ten 7 1 6 4 3)
    ≡ record { source = 513; channel = 1027; target = 1541; type = 2055; vector = 2569 } ∷ record { source = 7; channel = 1; target = 6; type = 4; vector = 3 } ∷ []
unfolding sends_in send_at from
two_sends = refl

-- Refusals 28: 64 sends are taken, and so is an empty list
lengths : map (λ (n : ℕ). refusal (call_tests (facts_on (new_history 1)) (opening_all (replicate n 0)))) (0 ∷ 1 ∷ 9 ∷ 10 ∷ 11 ∷ 630 ∷ 640 ∷ 641 ∷ 645 ∷ 650 ∷ [])
    ≡ 0 ∷ 28 ∷ 28 ∷ 0 ∷ 28 ∷ 0 ∷ 0 ∷ 28 ∷ 28 ∷ 28 ∷ []
unfolding call_tests refusal
lengths = refl

-- Jobs 3: the tests of the table come first, here that of its length
table_first : stopped_at 8 [] (opening_all (replicate 9 0)) ≡ 1
unfolding stopped_at lent_tests table_tests call_tests refusal
table_first = refl

-- Dimension 2, with receive channel 0 armed at nodes 1 and 3. Channel 0 of node 0 to node 1, and channel 1 of node 0 to node 3 by way of node 2, go together.
abbrev ready : History
ready = history_after (new_history 0) (making 2 ∷ arming 1 0 ∷ arming 3 0 ∷ [])

abbrev to_one : List ℕ
to_one = ten 0 0 1 0 1

abbrev to_three : List ℕ
to_three = ten 0 1 3 0 2

-- number and value of each call
abbrev shown : CallResult → ℕ × List ℕ
shown g = (g.number, g.values)

-- Each of these jobs is refused at the place that stands beside its number, and leaves the history as it was for the next: a link that the send before it took
-- (10), a node outside the cube at place 0 and at place 2 (4), a send channel that the send before it opened (9), a receive channel that it took (11), a list that
-- is no list of sends (28). An empty list is accepted. The two sends are then acknowledged, and a second time their first is refused.
jobs : map shown (history_results ready
    (opening_all (to_one ++ ten 0 1 1 0 1) ∷ opening_all (ten 4 0 1 0 1 ++ to_one) ∷ opening_all (to_one ++ to_three ++ ten 0 2 4 0 1) ∷ opening_all (to_one ++ ten 0 0 3 0 2)
    ∷ opening_all (to_one ++ ten 3 0 1 0 2) ∷ opening_all (to_one ++ 0 ∷ []) ∷ opening_all [] ∷ opening_all (to_one ++ to_three) ∷ opening_all (to_one ++ to_three) ∷ []))
    ≡ (10, 1 ∷ []) ∷ (4, 0 ∷ []) ∷ (4, 2 ∷ []) ∷ (9, 1 ∷ []) ∷ (11, 1 ∷ []) ∷ (28, 0 ∷ []) ∷ (0, 0 ∷ []) ∷ (0, 2 ∷ []) ∷ (9, 0 ∷ []) ∷ []
unfolding after_calls call_results history_step stopped_on call_tests refusal facts_on open_on held_on taken_on armed_on any holds_link holds_receive belongs enabled_on free_on link_state is_free receive_on lowest_of lowest send_on waiting_on some_attempt finds_path with_opened applied result_of call_on send attempts attempted network ports send_ports other_ports present axis keep from has flip uphill helical offered end links has_link free_path over ways beginnings scan whole pass scouts outcome_of_path outcome send_goes_on runs answered sends_in send_at in_turn after_job job_on
jobs = refl

-- Jobs 8
counts : history_after ready (opening_all (to_one ++ ten 0 1 1 0 1) ∷ opening_all (to_one ++ to_three) ∷ []) ≡ history_after ready (opening 0 0 1 0 1 ∷ opening 0 1 3 0 2 ∷ [])
unfolding after_calls history_step stopped_on call_tests refusal facts_on open_on held_on taken_on armed_on any holds_link holds_receive belongs enabled_on free_on link_state is_free receive_on lowest_of lowest send_on waiting_on some_attempt finds_path with_opened applied result_of call_on send attempts attempted network ports send_ports other_ports present axis keep from has flip uphill helical offered end links has_link free_path over ways beginnings scan whole pass scouts outcome_of_path outcome send_goes_on runs answered sends_in send_at in_turn after_job job_on
counts = refl
