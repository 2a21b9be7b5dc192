-- The fold mask set on small histories, computed: which masks are refused, which links are enabled afterwards, which blocked links are forgotten, and what holds a
-- partner link keeps.
-- Assumes nothing.
use Rattle.std.specs.Prelude.{◌≡◌, refl, Bool, true, false, List, [], ◌∷◌, ◌++◌, map, ℕ}
use Rattle.std.proofs.Common.{lit≤}
use Rattle.common.specs.Lists.{keep, from, any, lowest}
use Rattle.common.specs.Tests.{refusal}
use Rattle.cube.specs.Bits.{has, flip}
use Rattle.cube.specs.Cube.{uphill}
use Rattle.cube.specs.Axes.{axis, present}
use Rattle.cube.specs.Helical.{helical}
use Rattle.paths.specs.Network.{Link, offered, end, links, has_link, link_state, is_free, free_path}
use Rattle.paths.specs.Pass.{over, ways, beginnings, scan, whole, pass, scouts}
use Rattle.paths.specs.Send.{outcome_of_path, outcome, attempted, send_goes_on, runs, lowest_of}
use Rattle.paths.specs.CubeNetwork.{network, ports, send_ports, other_ports, attempts, send}
use Rattle.paths.specs.Waiting.{finds_path, some_attempt}
use Rattle.table.specs.View.{fresh}
use Rattle.table.specs.Folding.{set_fold}
use Rattle.ownership.specs.AllArmed.{FewLinks}
use Rattle.ownership.specs.Calls.{Call, blocking, unblocking, opening, closing, arming, folding, CallResult, answered, call_tests, result_of, call_on}
use Rattle.ownership.specs.History.{Circuit, History, holds_link, holds_receive, belongs, enabled_on, held_on, free_on, taken_on, open_on, armed_on, receive_on, waiting_on, facts_on, stopped_on, send_on, with_fold, without_entry, with_opened, applied, history_step, new_history}
use Rattle.ownership.specs.Agrees.{history_after, history_results, after_calls, call_results}

-- the history of a cube of four nodes after some calls, and the numbers that they answer there
abbrev after : List Call → History
after calls = history_after (new_history 2) calls

abbrev numbers : List Call → List ℕ
numbers calls = map (λ (g : CallResult). g.number) (history_results (new_history 2) calls)

-- whether the links out of ports 0, 16 and 17 of each node are enabled: 17 is the partner of 0, and 16 that of 1
abbrev links_on : History → List (Bool × Bool × Bool)
links_on h = map (λ n. (enabled_on h n 0, enabled_on h n 16, enabled_on h n 17)) (from 0 4)

-- Refusals 6: a fold bit at or above D, masks above 255 too; and a partner port is one of the cube where its dimension is folded, 8, 9 and 10 to 15 are none
refused_masks : numbers (folding 4 ∷ folding 8 ∷ folding 256 ∷ folding 3 ∷ []) ≡ 6 ∷ 6 ∷ 6 ∷ 0 ∷ []
unfolding call_results history_step stopped_on call_tests refusal facts_on any has result_of call_on applied with_fold keep from
refused_masks = refl

partner_ports : numbers (blocking 0 17 ∷ folding 1 ∷ blocking 0 17 ∷ unblocking 0 17 ∷ blocking 0 16 ∷ blocking 0 8 ∷ blocking 0 9 ∷ blocking 0 10 ∷ blocking 0 18 ∷ [])
    ≡ 6 ∷ 0 ∷ 0 ∷ 0 ∷ 6 ∷ 6 ∷ 6 ∷ 6 ∷ 6 ∷ []
unfolding call_results history_step stopped_on call_tests refusal facts_on held_on any has present axis result_of call_on applied with_fold without_entry keep from
partner_ports = refl

-- Folding enables the partner links of its dimension at every node, and unfolding clears them.
none_folded : links_on (after []) ≡ (true, false, false) ∷ (true, false, false) ∷ (true, false, false) ∷ (true, false, false) ∷ []
unfolding after_calls enabled_on present axis has has_link from
none_folded = refl

first_folded : links_on (after (folding 1 ∷ [])) ≡ (true, false, true) ∷ (true, false, true) ∷ (true, false, true) ∷ (true, false, true) ∷ []
unfolding after_calls history_step stopped_on call_tests refusal facts_on any has result_of call_on applied with_fold enabled_on present axis has_link keep from
first_folded = refl

second_folded : links_on (after (folding 1 ∷ folding 2 ∷ [])) ≡ (true, true, false) ∷ (true, true, false) ∷ (true, true, false) ∷ (true, true, false) ∷ []
unfolding after_calls history_step stopped_on call_tests refusal facts_on held_on any has result_of call_on applied with_fold enabled_on present axis has_link keep from
second_folded = refl

-- A mask that keeps a dimension folded keeps its blocked partner link; folding it anew forgets that, and so does unfolding it. The link out of its own port stays
-- blocked whatever the mask is.
abbrev blocked_after : List Call → List Link
blocked_after calls = (after (folding 1 ∷ blocking 0 17 ∷ blocking 0 0 ∷ calls)).blocked

kept_blocked : blocked_after (folding 1 ∷ folding 3 ∷ []) ≡ (0, 0) ∷ (0, 17) ∷ []
unfolding after_calls history_step stopped_on call_tests refusal facts_on held_on any has result_of call_on applied with_fold present axis keep from
kept_blocked = refl

forgotten : blocked_after (folding 2 ∷ []) ≡ (0, 0) ∷ []
unfolding after_calls history_step stopped_on call_tests refusal facts_on held_on any has result_of call_on applied with_fold present axis keep from
forgotten = refl

folded_anew : links_on (after (folding 1 ∷ blocking 0 17 ∷ folding 2 ∷ folding 3 ∷ [])) ≡ (true, true, true) ∷ (true, true, true) ∷ (true, true, true) ∷ (true, true, true) ∷ []
unfolding after_calls history_step stopped_on call_tests refusal facts_on held_on any has result_of call_on applied with_fold enabled_on present axis has_link keep from
folded_anew = refl

still_blocked : links_on (after (folding 1 ∷ blocking 0 17 ∷ folding 3 ∷ [])) ≡ (true, true, false) ∷ (true, true, true) ∷ (true, true, true) ∷ (true, true, true) ∷ []
unfolding after_calls history_step stopped_on call_tests refusal facts_on held_on any has result_of call_on applied with_fold enabled_on present axis has_link keep from
still_blocked = refl

-- The same mask changes nothing.
same_mask : after (folding 1 ∷ blocking 0 17 ∷ folding 1 ∷ []) ≡ after (folding 1 ∷ blocking 0 17 ∷ [])
unfolding after_calls history_step stopped_on call_tests refusal facts_on held_on any has result_of call_on applied with_fold present axis keep from
same_mask = refl

-- Two circuits from node 0 to node 1 over the two links of a pair, one each. Then the dimension is not unfolded (13), before the second of them is closed; another may be
-- folded beside it.
abbrev pair : List Call
pair = folding 1 ∷ arming 1 0 ∷ arming 1 1 ∷ opening 0 0 1 0 1 ∷ opening 0 1 1 0 1 ∷ []

pair_paths : map (λ (x : Circuit). x.ports) (after pair).circuits ≡ (17 ∷ []) ∷ (0 ∷ []) ∷ []
unfolding after_calls call_results history_step stopped_on call_tests refusal facts_on open_on held_on taken_on armed_on any holds_link holds_receive belongs enabled_on free_on link_state is_free receive_on lowest_of lowest send_on waiting_on some_attempt finds_path with_opened with_fold applied result_of call_on send attempts attempted network ports send_ports other_ports present axis keep from has flip uphill helical offered end links has_link free_path over ways beginnings scan whole pass scouts outcome_of_path outcome send_goes_on runs answered
pair_paths = refl

pair_held : numbers (pair ++ folding 0 ∷ folding 2 ∷ folding 3 ∷ closing 0 0 ∷ folding 2 ∷ closing 0 1 ∷ folding 2 ∷ []) ≡ 0 ∷ 0 ∷ 0 ∷ 0 ∷ 0 ∷ 13 ∷ 13 ∷ 0 ∷ 0 ∷ 13 ∷ 0 ∷ 0 ∷ []
unfolding after_calls call_results history_step stopped_on call_tests refusal facts_on open_on held_on taken_on armed_on any holds_link holds_receive belongs enabled_on free_on link_state is_free receive_on lowest_of lowest send_on waiting_on some_attempt finds_path with_opened with_fold applied result_of call_on send attempts attempted network ports send_ports other_ports present axis keep from has flip uphill helical offered end links has_link free_path over ways beginnings scan whole pass scouts outcome_of_path outcome send_goes_on runs answered
pair_held = refl

-- At most eight links lead into a node where dimension and folded dimensions are eight together: of dimension 4 with all of them folded, and of 7 with the last.
four_folded : FewLinks (set_fold (fresh 4) 15)
unfolding set_fold fresh ports present axis keep from has
four_folded most = lit≤ tt

seven_and_one : FewLinks (set_fold (fresh 7) 64)
unfolding set_fold fresh ports present axis keep from has
seven_and_one most = lit≤ tt
