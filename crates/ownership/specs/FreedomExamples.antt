-- Promises 11 and Promises 12 at their edges, computed: what each condition is there for, and what closing a circuit does not promise. Tables are given by what they show.
-- Assumes nothing.
use Rattle.std.specs.Prelude.{◌≡◌, refl, Bool, true, false, List, [], ◌∷◌}
use Rattle.common.specs.Lists.{keep, from, any, lowest}
use Rattle.cube.specs.Bits.{has, flip}
use Rattle.cube.specs.Axes.{axis, present}
use Rattle.cube.specs.Cube.{uphill}
use Rattle.cube.specs.Helical.{helical}
use Rattle.paths.specs.Network.{offered, end, link_state, is_free, free_path}
use Rattle.paths.specs.Pass.{over, ways, beginnings, scan, whole, pass, scouts}
use Rattle.paths.specs.Send.{acknowledged, route_rejected, lowest_of, outcome_of_path, outcome, attempted, SendResult, send_goes_on, runs}
use Rattle.paths.specs.Waiting.{finds_path, some_attempt}
use Rattle.paths.specs.CubeNetwork.{ports, network, send_ports, other_ports, attempts, send}
use Rattle.table.specs.View.{View, fresh, set_at, set_armed, set_enabled, set_owner, set_receiver, held_in, without_circuit, available, receive}
use Rattle.answers.specs.SendOnTable.{state_in, free_in, send_in, hold_links, view_after_send, waiting_helps}

-- a cube of four nodes, with receive channel 0 of node 1 and both 0 and 1 of node 3 armed
abbrev pub square : View
square = set_armed (set_armed (set_armed (fresh 2) 1 0 true) 3 0 true) 3 1 true

-- the same with the link from node 0 to node 1 blocked, or held by circuit 2, which nobody receives; and with that from node 2 to node 3 blocked
abbrev first_blocked : View → View
first_blocked v = set_enabled v 0 0 false

abbrev first_held : View → View
first_held v = set_owner v 0 0 2

abbrev pub far_blocked : View → View
far_blocked v = set_enabled v 2 0 false

-- circuit 2 from node 0 to node 3, over node 1, on receive channel 0
abbrev one_circuit : View
one_circuit = set_receiver (set_owner (set_owner square 0 0 2) 1 1 2) 3 0 2

-- circuit 2 from node 0 to node 1; and what a table shows after an open from node 0 to node 3
abbrev short_circuit : View
short_circuit = set_receiver (set_owner square 0 0 2) 1 0 2

abbrev after_first : View → View
after_first v = view_after_send v 1 0 3 (send_in v 0 3 0 3).outcome

abbrev freedom_sends : List SendResult
freedom_sends =
    -- from 0 to 1 over port 0, which is uphill: nodes 2 and 3 are not between, and a link there changes nothing
    send_in square 0 1 0 1
    ∷ send_in (far_blocked square) 0 1 0 1
    -- over port 1, which is not uphill, it does: so the vector names uphill ports alone
    ∷ send_in square 0 1 0 2
    ∷ send_in (far_blocked square) 0 1 0 2
    -- with routing type 4 too, whose second pass has the other ports: so an open of type 0
    ∷ send_in (first_blocked square) 0 1 4 1
    ∷ send_in (far_blocked (first_blocked square)) 0 1 4 1
    -- where the first link is held, and where it is blocked, it is rejected
    ∷ send_in (first_held square) 0 1 0 1
    ∷ send_in (first_blocked square) 0 1 0 1
    -- after closing, an open that was acknowledged may take another path; its receive channel is the one that was available
    ∷ send_in one_circuit 0 3 0 3
    ∷ send_in (without_circuit one_circuit 2) 0 3 0 3
    -- Examples 24: of two opens one after another the second may then be rejected: the first takes another path, and with it the link that the second needs
    ∷ send_in (after_first short_circuit) 1 3 0 2
    ∷ send_in (after_first (without_circuit short_circuit 2)) 1 3 0 2
    ∷ []

abbrev freedom_answers : List SendResult
freedom_answers =
    record { outcome = acknowledged (0 ∷ []) 0; scouts = 1 }
    ∷ record { outcome = acknowledged (0 ∷ []) 0; scouts = 1 }
    ∷ record { outcome = acknowledged (1 ∷ 0 ∷ 1 ∷ []) 0; scouts = 3 }
    ∷ record { outcome = acknowledged (1 ∷ 1 ∷ 0 ∷ []) 0; scouts = 3 }
    ∷ record { outcome = acknowledged (1 ∷ 0 ∷ 1 ∷ []) 0; scouts = 3 }
    ∷ record { outcome = route_rejected; scouts = 2 }
    ∷ record { outcome = route_rejected; scouts = 0 }
    ∷ record { outcome = route_rejected; scouts = 0 }
    ∷ record { outcome = acknowledged (1 ∷ 0 ∷ []) 1; scouts = 2 }
    ∷ record { outcome = acknowledged (0 ∷ 1 ∷ []) 1; scouts = 2 }
    ∷ record { outcome = acknowledged (1 ∷ []) 1; scouts = 1 }
    ∷ record { outcome = route_rejected; scouts = 0 }
    ∷ []

freedom_sends_lem : freedom_sends ≡ freedom_answers
unfolding send runs attempts attempted pass scan whole beginnings over ways scouts outcome outcome_of_path send_goes_on network ports send_ports other_ports present axis keep from lowest has flip uphill helical offered end free_path link_state is_free state_in free_in held_in lowest_of available receive fresh set_at set_armed set_enabled set_owner set_receiver without_circuit view_after_send hold_links
freedom_sends_lem = refl

-- Of these two rejections waiting helps in the first alone, so that one is 10 and the other 22: so Promises 12 tells held links and blocked ones apart.
abbrev waiting_answers : List Bool
waiting_answers = waiting_helps (first_held square) 0 1 0 1 ∷ waiting_helps (first_blocked square) 0 1 0 1 ∷ []

waiting_answers_lem : waiting_answers ≡ (true ∷ false ∷ [])
unfolding waiting_helps some_attempt finds_path any attempts attempted pass scan whole beginnings over ways network ports send_ports other_ports present axis keep from has flip uphill helical offered end free_path fresh set_at set_armed set_enabled set_owner
waiting_answers_lem = refl
