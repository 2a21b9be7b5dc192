-- Examples 1 to 6, and of Examples 28: the definitions compute to what they say.
-- Assumes nothing.
use Rattle.std.specs.Prelude.{◌≡◌, refl, Bool, true, ◌&&◌, not, List, [], ◌∷◌, ℕ, eqb}
use Rattle.common.specs.Lists.{keep, from}
use Rattle.cube.specs.Bits.{has, flip}
use Rattle.cube.specs.Axes.{axis, present}
use Rattle.cube.specs.Cube.{uphill}
use Rattle.cube.specs.Helical.{helical}
use Rattle.paths.specs.Network.{Link, offered, end, free_path}
use Rattle.paths.specs.Pass.{over, ways, beginnings, scan, whole, pass, scouts}
use Rattle.paths.specs.Send.{lowest_available, none_available, Outcome, acknowledged, route_rejected, receive_rejected, outcome_of_path, attempted, outcome, SendResult, send_goes_on, runs}
use Rattle.paths.specs.CubeNetwork.{unfolded, ports, network, send_ports, other_ports, attempts, send}
use Rattle.paths.specs.OldRule.{old_goes_on, old_runs, old_send}

-- every link is free but those listed
abbrev pub free_but : List Link → ℕ → ℕ → Bool
free_but [] n p = true
free_but (l ∷ ls) n p = not (eqb l.0 n && eqb l.1 p) && free_but ls n p

abbrev pub answer : Outcome → ℕ → SendResult
answer o c = record { outcome = o; scouts = c }

-- the sends of the examples, with receive channel 0 the lowest at each target
abbrev sends : List SendResult
sends =
    -- 1: D 3, 0 to 7, vector 7, nothing blocked
    send 0 (unfolded 3) (free_but []) (lowest_available 0) 0 7 7
    -- 2: the patent's figure 7, links 1 to 5 and 3 to 7 blocked
    ∷ send 0 (unfolded 3) (free_but ((1, 2) ∷ (3, 2) ∷ [])) (lowest_available 0) 0 7 7
    -- 3: D 1, node 0 to itself, vector 1
    ∷ send 0 (unfolded 1) (free_but []) (lowest_available 0) 0 1 0
    -- 4: D 2, 0 to 1, vector 2
    ∷ send 0 (unfolded 2) (free_but []) (lowest_available 0) 0 2 1
    -- 5: as 4, link 2 to 3 blocked
    ∷ send 0 (unfolded 2) (free_but ((2, 0) ∷ [])) (lowest_available 0) 0 2 1
    -- 6: D 2, 0 to 1, vector 1, link 0 to 1 blocked; type 0, then type 4
    ∷ send 0 (unfolded 2) (free_but ((0, 0) ∷ [])) (lowest_available 0) 0 1 1
    ∷ send 4 (unfolded 2) (free_but ((0, 0) ∷ [])) (lowest_available 0) 0 1 1
    ∷ []

abbrev answers : List SendResult
answers =
    answer (acknowledged (0 ∷ 1 ∷ 2 ∷ []) 0) 3
    ∷ answer (acknowledged (1 ∷ 2 ∷ 0 ∷ []) 0) 5
    ∷ answer (acknowledged (0 ∷ 0 ∷ []) 0) 2
    ∷ answer (acknowledged (1 ∷ 0 ∷ 1 ∷ []) 0) 3
    ∷ answer (acknowledged (1 ∷ 1 ∷ 0 ∷ []) 0) 3
    ∷ answer route_rejected 0
    ∷ answer (acknowledged (1 ∷ 0 ∷ 1 ∷ []) 0) 3
    ∷ []

examples_1_to_6 : sends ≡ answers
unfolding send attempts attempted network ports send_ports other_ports present axis keep from has flip uphill helical offered end free_path over ways beginnings scan whole pass scouts outcome_of_path outcome send_goes_on runs
examples_1_to_6 = refl

-- Examples 28: two passes that both send scouts: D 2, 0 to 3, vector 1, link 1 to 3 blocked. The first sends one, over port 0; the second two.
acknowledged_second : send 4 (unfolded 2) (free_but ((1, 1) ∷ [])) (lowest_available 4) 0 1 3 ≡ answer (acknowledged (1 ∷ 0 ∷ []) 4) 3
unfolding send attempts attempted network ports send_ports other_ports present axis keep from has flip uphill helical offered end free_path over ways beginnings scan whole pass scouts outcome_of_path outcome send_goes_on runs
acknowledged_second = refl

-- With no receive channel to take: type 0 is receive rejected.
receive_rejected_once : send 0 (unfolded 1) (free_but []) none_available 0 1 1 ≡ answer receive_rejected 1
unfolding send attempts attempted network ports send_ports present axis keep from has flip uphill helical offered end free_path over ways beginnings scan whole pass scouts outcome_of_path outcome runs
receive_rejected_once = refl

-- Searches 11: of type 4, too, a receive rejection ends the send, and no second pass adds scouts (Examples 28). It would have had no port, or three scouts
-- more.
abbrev rejected_sends : List SendResult
rejected_sends =
    -- D 1, 0 to 1, vector 1
    send 4 (unfolded 1) (free_but []) none_available 0 1 1
    -- D 2, 0 to 1, vector 1
    ∷ send 4 (unfolded 2) (free_but []) none_available 0 1 1
    ∷ []

receive_rejected_first : rejected_sends ≡ answer receive_rejected 1 ∷ answer receive_rejected 1 ∷ []
unfolding send attempts attempted network ports send_ports other_ports present axis keep from has flip uphill helical offered end free_path over ways beginnings scan whole pass scouts outcome_of_path outcome send_goes_on runs
receive_rejected_first = refl

-- Before, they were route rejected with that scout, and receive rejected with four.
abbrev old_rejected_sends : List SendResult
old_rejected_sends = old_send 4 (unfolded 1) (free_but []) none_available 0 1 1 ∷ old_send 4 (unfolded 2) (free_but []) none_available 0 1 1 ∷ []

rejected_before : old_rejected_sends ≡ answer route_rejected 1 ∷ answer receive_rejected 4 ∷ []
unfolding old_send attempts attempted network ports send_ports other_ports present axis keep from has flip uphill helical offered end free_path over ways beginnings scan whole pass scouts outcome_of_path outcome old_goes_on old_runs
rejected_before = refl

-- A first pass that finds no path does not end it: D 2, 0 to 3, vector 1, link 1 to 3 blocked. The first sends one scout, the second two.
receive_rejected_second : send 4 (unfolded 2) (free_but ((1, 1) ∷ [])) none_available 0 1 3 ≡ answer receive_rejected 3
unfolding send attempts attempted network ports send_ports other_ports present axis keep from has flip uphill helical offered end free_path over ways beginnings scan whole pass scouts outcome_of_path outcome send_goes_on runs
receive_rejected_second = refl

-- A type 4 send that is acknowledged at once makes no second pass.
acknowledged_at_once : send 4 (unfolded 2) (free_but []) (lowest_available 6) 0 1 1 ≡ answer (acknowledged (0 ∷ []) 6) 1
unfolding send attempts attempted network ports send_ports other_ports present axis keep from has flip uphill helical offered end free_path over ways beginnings scan whole pass scouts outcome_of_path outcome send_goes_on runs
acknowledged_at_once = refl
