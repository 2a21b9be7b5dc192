-- More freedom at its edges, computed on what small tables show: the path and the scouts may differ, and types 1 and 3 need that no more is folded.
-- Assumes nothing.
use Rattle.std.specs.Prelude.{◌≡◌, refl, true, false, List, [], ◌∷◌}
use Rattle.common.specs.Lists.{keep, from, lowest}
use Rattle.cube.specs.Bits.{has, flip}
use Rattle.cube.specs.Axes.{axis, present}
use Rattle.cube.specs.Cube.{uphill}
use Rattle.cube.specs.Helical.{helical}
use Rattle.paths.specs.Network.{offered, take_first, end, link_state, is_free, free_path}
use Rattle.paths.specs.Pass.{over, ways, beginnings, scan, whole, pass, scouts}
use Rattle.paths.specs.Helix.{helix_from, helix_path, free_front, try_paths}
use Rattle.paths.specs.Send.{acknowledged, route_rejected, lowest_of, outcome_of_path, outcome, attempted, SendResult, send_goes_on, runs}
use Rattle.paths.specs.CubeNetwork.{ports, network, send_ports, other_ports, attempts, send}
use Rattle.table.specs.View.{View, fresh, set_at, set_armed, set_enabled, held_in, available, receive}
use Rattle.table.specs.Folding.{set_fold}
use Rattle.answers.specs.SendOnTable.{state_in, free_in, send_in}

-- four nodes, with receive channel 0 of node 3 armed and the link from node 1 to node 3 blocked
abbrev square : View
square = set_armed (fresh 2) 3 0 true

abbrev last_blocked : View
last_blocked = set_enabled square 1 1 false

-- two nodes, with receive channel 0 of node 0 armed; and the same folded, with both partner links blocked, so that the same links are free
abbrev pair : View
pair = set_armed (fresh 1) 0 0 true

abbrev folded_pair : View
folded_pair = set_enabled (set_enabled (set_fold pair 1) 0 17 false) 1 17 false

-- eight nodes, with receive channel 0 of node 7 armed and the link from node 6 to node 7 blocked
abbrev cube : View
cube = set_enabled (set_armed (fresh 3) 7 0 true) 6 0 false

abbrev freer_sends : List SendResult
freer_sends =
    -- one more link free, and the scouts are more, since one goes out there in vain; another, and they are fewer, over another path
    send_in (set_enabled last_blocked 0 0 false) 0 3 0 3
    ∷ send_in last_blocked 0 3 0 3
    ∷ send_in square 0 3 0 3
    -- to and fro between the two nodes: folded, a helix path goes back over the partner
    ∷ send_in pair 0 0 1 1
    ∷ send_in folded_pair 0 0 1 1
    ∷ send_in pair 0 0 3 1
    ∷ send_in folded_pair 0 0 3 1
    -- and a pass over the link that is free
    ∷ send_in folded_pair 0 0 0 1
    -- with dimension 1 folded the helix path of port 2 comes by node 6, and not by node 5
    ∷ send_in cube 0 7 3 4
    ∷ send_in (set_fold cube 2) 0 7 3 4
    ∷ send_in (set_fold cube 2) 0 7 0 4
    ∷ []

abbrev freer_answers : List SendResult
freer_answers =
    record { outcome = acknowledged (1 ∷ 0 ∷ []) 0; scouts = 2 }
    ∷ record { outcome = acknowledged (1 ∷ 0 ∷ []) 0; scouts = 3 }
    ∷ record { outcome = acknowledged (0 ∷ 1 ∷ []) 0; scouts = 2 }
    ∷ record { outcome = acknowledged (0 ∷ 0 ∷ []) 0; scouts = 2 }
    ∷ record { outcome = route_rejected; scouts = 1 }
    ∷ record { outcome = acknowledged (0 ∷ 0 ∷ []) 0; scouts = 2 }
    ∷ record { outcome = route_rejected; scouts = 1 }
    ∷ record { outcome = acknowledged (0 ∷ 0 ∷ []) 0; scouts = 2 }
    ∷ record { outcome = acknowledged (2 ∷ 0 ∷ 1 ∷ []) 0; scouts = 3 }
    ∷ record { outcome = route_rejected; scouts = 2 }
    ∷ record { outcome = acknowledged (2 ∷ 0 ∷ 1 ∷ []) 0; scouts = 4 }
    ∷ []

freer_sends_lem : freer_sends ≡ freer_answers
unfolding send runs attempts attempted pass scan whole beginnings over ways scouts outcome outcome_of_path send_goes_on network ports send_ports other_ports present axis keep from lowest has flip uphill helical offered take_first end free_path helix_from helix_path free_front try_paths link_state is_free state_in free_in held_in lowest_of available receive fresh set_at set_armed set_enabled set_fold
freer_sends_lem = refl
