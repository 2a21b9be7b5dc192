-- Folding a dimension can turn an acknowledged open of type 1 or 3 into a rejected one: computed in the history, which every table so reached represents.
-- Assumes nothing.
use mathlib.Core.Path.{◌≡◌, refl, ap, ◌∙◌}
use mathlib.Core.Logic.{◌⊎◌, inl, inr}
use mathlib.Core.List.{List, [], ◌∷◌}
use Prim.Native.Nat.{ℕ}
use native.Mathlib.Omega.{arith}
use lib.ListN.{length}
use Rattle.common.specs.Lists.{keep, from, any, lowest}
use Rattle.common.specs.Tests.{refusal}
use Rattle.cube.specs.Bits.{has, flip}
use Rattle.cube.specs.Cube.{uphill}
use Rattle.cube.specs.Axes.{axis, present}
use Rattle.cube.specs.Helical.{helical}
use Rattle.paths.specs.Network.{offered, take_first, end, links, has_link, link_state, is_free, free_path}
use Rattle.paths.specs.Pass.{scouts}
use Rattle.paths.specs.Helix.{helix_from, helix_path, free_front, try_paths}
use Rattle.paths.specs.Send.{lowest_of, outcome_of_path, outcome, attempted, send_goes_on, runs}
use Rattle.paths.specs.Waiting.{finds_path, some_attempt}
use Rattle.paths.specs.CubeNetwork.{network, ports, send_ports, attempts, send}
use Rattle.layout.specs.Layout.{wide_ports, wide_length}
use Rattle.ownership.specs.Calls.{making, blocking, opening, arming, folding, CallResult, answered, call_tests, result_of, call_on}
use Rattle.ownership.specs.Closing.{no_call, call_more}
use Rattle.ownership.specs.History.{History, holds_link, holds_receive, belongs, enabled_on, held_on, free_on, taken_on, open_on, armed_on, receive_on, waiting_on, facts_on, stopped_on, send_on, with_fold, with_opened, applied, history_step, new_history}
use Rattle.ownership.specs.OnTable.{table_step}
use Rattle.ownership.specs.Agrees.{Accepted, history_after, after_calls}
use Rattle.ownership.specs.Invariant.{Represents}
use Rattle.ownership.specs.Promises.{open_number}
use Rattle.ownership.proofs.Agreement.{making_accepted, made_represents, represents_run, represents_step}
use Rattle.freedom.specs.Promises.{made_for_folding}

abbrev prepared : History
prepared = history_after (new_history 0) (making 3 ∷ arming 7 0 ∷ blocking 6 0 ∷ [])

abbrev folded : History
folded = (history_step prepared (folding 2)).state

abbrev number_on : History → ℕ → ℕ
number_on h type = (history_step h (opening 0 0 7 type 4)).result.number

-- over ports 2, 0 and 1 before
before_helix : number_on prepared 1 ≡ 0
unfolding after_calls history_step stopped_on call_tests refusal facts_on open_on held_on taken_on armed_on any holds_link holds_receive belongs enabled_on free_on link_state is_free receive_on lowest_of lowest send_on waiting_on some_attempt finds_path with_opened with_fold applied result_of call_on send attempts attempted network ports send_ports present axis keep from has flip uphill helical offered end links has_link free_path take_first helix_from helix_path free_front try_paths scouts outcome_of_path outcome send_goes_on runs answered
before_helix = refl

before_fixed : number_on prepared 3 ≡ 0
unfolding after_calls history_step stopped_on call_tests refusal facts_on open_on held_on taken_on armed_on any holds_link holds_receive belongs enabled_on free_on link_state is_free receive_on lowest_of lowest send_on waiting_on some_attempt finds_path with_opened with_fold applied result_of call_on send attempts attempted network ports send_ports present axis keep from has flip uphill helical offered end links has_link free_path take_first helix_from helix_path free_front try_paths scouts outcome_of_path outcome send_goes_on runs answered
before_fixed = refl

-- over ports 2 and 16 and then the blocked link afterwards
after_helix : number_on folded 1 ≡ 22
unfolding after_calls history_step stopped_on call_tests refusal facts_on open_on held_on taken_on armed_on any holds_link holds_receive belongs enabled_on free_on link_state is_free receive_on lowest_of lowest send_on waiting_on some_attempt finds_path with_opened with_fold applied result_of call_on send attempts attempted network ports send_ports present axis keep from has flip uphill helical offered end links has_link free_path take_first helix_from helix_path free_front try_paths scouts outcome_of_path outcome send_goes_on runs answered
after_helix = refl

after_fixed : number_on folded 3 ≡ 22
unfolding after_calls history_step stopped_on call_tests refusal facts_on open_on held_on taken_on armed_on any holds_link holds_receive belongs enabled_on free_on link_state is_free receive_on lowest_of lowest send_on waiting_on some_attempt finds_path with_opened with_fold applied result_of call_on send attempts attempted network ports send_ports present axis keep from has flip uphill helical offered end links has_link free_path take_first helix_from helix_path free_front try_paths scouts outcome_of_path outcome send_goes_on runs answered
after_fixed = refl

module _ (b : List ℕ) (long : length b ≡ wide_length) where
  -- the table represents that history, before
  stands : Represents wide_ports (made_for_folding b) prepared
  unfolding after_calls
  stands =
      represents_run wide_ports (inr refl) (arming 7 0 ∷ blocking 6 0 ∷ []) (call_more tt (call_more tt no_call)) _ _
      (made_represents wide_ports (inr refl) b (new_history 0) 3 (making_accepted wide_ports b 3 long (omega arith) (omega arith)))

  -- and after
  stands_folded : Represents wide_ports (table_step wide_ports (made_for_folding b) (folding 2)).state folded
  stands_folded = (represents_step wide_ports (inr refl) (made_for_folding b) prepared stands (folding 2) refl).represented

  alike : (a : List ℕ) (h : History) → Represents wide_ports a h → (type : ℕ) → open_number wide_ports a 0 0 7 type 4 ≡ number_on h type
  alike a h k type = ap (λ (g : CallResult). g.number) (represents_step wide_ports (inr refl) a h k (opening 0 0 7 type 4) tt).result

pub folding_hurts : (b : List ℕ) → length b ≡ wide_length → (type : ℕ) → (type ≡ 1) ⊎ (type ≡ 3)
    → Accepted wide_ports (made_for_folding b) (opening 0 0 7 type 4) × (open_number wide_ports (table_step wide_ports (made_for_folding b) (folding 2)).state 0 0 7 type 4 ≡ 22)
folding_hurts b long type (inl e) =
    rw e (alike b long (made_for_folding b) prepared (stands b long) 1 ∙ before_helix, alike b long _ folded (stands_folded b long) 1 ∙ after_helix)
folding_hurts b long type (inr e) =
    rw e (alike b long (made_for_folding b) prepared (stands b long) 3 ∙ before_fixed, alike b long _ folded (stands_folded b long) 3 ∙ after_fixed)
