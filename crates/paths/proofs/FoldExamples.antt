-- Small cubes with fold masks (Cube 3), of which the definitions of `paths` speak.
-- Assumes nothing.
use Rattle.std.specs.Prelude.{◌≡◌, refl, List, [], ◌∷◌, ℕ, length}
use Rattle.common.specs.Lists.{keep, from, any}
use Rattle.cube.specs.Bits.{has, flip}
use Rattle.cube.specs.Axes.{axis, present}
use Rattle.cube.specs.Cube.{uphill, next}
use Rattle.cube.specs.Helical.{helical}
use Rattle.paths.specs.Network.{Path, offered, take_first, end, links, has_link, free_path}
use Rattle.paths.specs.Helix.{helix_from, helix_path, free_front, try_paths}
use Rattle.paths.specs.Pass.{over, ways, beginnings, scan, whole, pass, scouts}
use Rattle.paths.specs.Send.{lowest_available, acknowledged, route_rejected, outcome_of_path, attempted, outcome, SendResult, send_goes_on, runs}
use Rattle.paths.specs.CubeNetwork.{Shape, ports, network, send_ports, other_ports, attempts, send}
use Rattle.paths.specs.Bound.{ways_from, packets_from}
use Rattle.paths.specs.Recover.{drop_axis, walk_from, way_back, first_hop_choices, path_of_links}
use Rattle.paths.proofs.Examples.{free_but, answer}

abbrev pub folded : ℕ → ℕ → Shape
folded D mask = record { dimension = D; fold = mask }

-- Folding 1; Examples 29 has some of them.
abbrev folded_sends : List SendResult
folded_sends =
    -- D 1, mask 1, 0 to 1, vector 1, so ports 0 and 17
    send 0 (folded 1 1) (free_but []) (lowest_available 0) 0 1 1
    -- the same with the link over port 0 blocked
    ∷ send 0 (folded 1 1) (free_but ((0, 0) ∷ [])) (lowest_available 0) 0 1 1
    -- D 1, mask 1, 0 to itself: a scout that came in on port 0 tries 17 before 0
    ∷ send 0 (folded 1 1) (free_but []) (lowest_available 0) 0 1 0
    -- D 2, mask 3, 0 to 3, vector 1, both links from 1 to 3 blocked: type 0, and type 4, whose scout comes in on 1 and tries 17 before 0
    ∷ send 0 (folded 2 3) (free_but ((1, 1) ∷ (1, 16) ∷ [])) (lowest_available 0) 0 1 3
    ∷ send 4 (folded 2 3) (free_but ((1, 1) ∷ (1, 16) ∷ [])) (lowest_available 0) 0 1 3
    -- D 2, mask 1, 0 to 2, vector 1, link 1 to 3 blocked: out over 0, back over 17, and on
    ∷ send 0 (folded 2 1) (free_but ((1, 1) ∷ [])) (lowest_available 0) 0 1 2
    -- D 1, mask 1, 0 to itself, link over port 0 of node 0 blocked: one arrives on a partner (Cube 7), and a scout that came in on port 17 tries 0 before 17
    ∷ send 0 (folded 1 1) (free_but ((0, 0) ∷ [])) (lowest_available 0) 0 1 0
    -- D 1, mask 1, 0 to 1, vector 1, the same link blocked: type 3 takes the lowest port alone, type 1 its partner too
    ∷ send 3 (folded 1 1) (free_but ((0, 0) ∷ [])) (lowest_available 0) 0 1 1
    ∷ send 1 (folded 1 1) (free_but ((0, 0) ∷ [])) (lowest_available 0) 0 1 1
    -- D 2, mask 3, 0 to 3, vector 2, both links out of node 2 over axis 0 blocked: every scout of type 0; type 4 then tries 0 and 17
    ∷ send 0 (folded 2 3) (free_but ((2, 0) ∷ (2, 17) ∷ [])) (lowest_available 0) 0 2 3
    ∷ send 4 (folded 2 3) (free_but ((2, 0) ∷ (2, 17) ∷ [])) (lowest_available 0) 0 2 3
    ∷ []

abbrev folded_answers : List SendResult
folded_answers =
    answer (acknowledged (0 ∷ []) 0) 1
    ∷ answer (acknowledged (17 ∷ []) 0) 1
    ∷ answer (acknowledged (0 ∷ 17 ∷ []) 0) 2
    ∷ answer route_rejected 2
    ∷ answer (acknowledged (1 ∷ 17 ∷ []) 0) 4
    ∷ answer (acknowledged (0 ∷ 17 ∷ 1 ∷ []) 0) 3
    ∷ answer (acknowledged (17 ∷ 0 ∷ []) 0) 2
    ∷ answer route_rejected 0
    ∷ answer (acknowledged (17 ∷ []) 0) 1
    ∷ answer route_rejected 2
    ∷ answer (acknowledged (0 ∷ 1 ∷ []) 0) 4
    ∷ []

folded_sends_lem : folded_sends ≡ folded_answers
unfolding send attempts attempted network ports send_ports other_ports present axis keep from has flip uphill helical offered end free_path over ways beginnings scan whole pass scouts outcome_of_path outcome send_goes_on runs take_first helix_from helix_path free_front try_paths
folded_sends_lem = refl

-- Examples 14: with D 8 and mask 255, behind port 7 come 10 to 17 and then 0 to 7.
after_seven : helical 7 (ports (folded 8 255)) ≡ 10 ∷ 11 ∷ 12 ∷ 13 ∷ 14 ∷ 15 ∷ 16 ∷ 17 ∷ 0 ∷ 1 ∷ 2 ∷ 3 ∷ 4 ∷ 5 ∷ 6 ∷ 7 ∷ []
unfolding helical ports present axis keep from has
after_seven = refl

-- Examples 13: with D 2 and both dimensions folded a send of vector 3, which arrives on port 17, tries 0, 1, 16 and 17; after an arrival on 16 it is 17 that comes first. Behind port 7, where the
-- sends of a board of 8 ports arrive, partners would.
of_two : List ℕ
of_two = send_ports (folded 2 3) 3

after_seventeen : helical 17 of_two ≡ 0 ∷ 1 ∷ 16 ∷ 17 ∷ []
unfolding of_two helical send_ports ports present axis keep from has
after_seventeen = refl

after_sixteen : helical 16 of_two ≡ 17 ∷ 0 ∷ 1 ∷ 16 ∷ []
unfolding of_two helical send_ports ports present axis keep from has
after_sixteen = refl

seven_of_two : helical 7 of_two ≡ 16 ∷ 17 ∷ 0 ∷ 1 ∷ []
unfolding of_two helical send_ports ports present axis keep from has
seven_of_two = refl

-- Searches 5: the ports below D that the vector does not name, and then their partners: not the partner of a port that it names
others_of_one : other_ports (folded 2 3) 1 ≡ 1 ∷ 16 ∷ []
unfolding other_ports ports present axis keep from has
others_of_one = refl

-- Cube 5: partners lead to the same node.
leads_there : (next 0 17 ≡ next 0 0) × (next 5 16 ≡ 7)
unfolding flip axis has
leads_there = (refl, refl)

-- D 8, mask 255: a helix path behind port 7 goes on over partners
helix_partners : helix_path (network (folded 8 255)) 0 255 7 ≡ 7 ∷ 11 ∷ 12 ∷ 13 ∷ 14 ∷ 15 ∷ 16 ∷ 17 ∷ []
unfolding helix_path helix_from take_first network present axis keep from has flip uphill helical offered
helix_partners = refl

-- Paths 3: of vector 5 with mask 6, port 15 beside port 2.
with_fifteen : send_ports (folded 3 6) 5 ≡ 0 ∷ 2 ∷ 15 ∷ []
unfolding send_ports ports present axis keep from has
with_fifteen = refl

-- As many beginnings as the bound counts with two links to an axis: D 2, mask 3, 0 to 1.
beginnings_counted : length (beginnings (network (folded 2 3)) 0 (ports (folded 2 3)) 1) ≡ packets_from 2 2 1
unfolding network ports present axis keep from has flip uphill helical offered over ways beginnings ways_from packets_from
beginnings_counted = refl

-- Paths recovered from their links, D 2 and mask 1: straight back over the partner or over the same port, and on past the source; or not back at all.
abbrev recovered : List Path → List Path
recovered [] = []
recovered (w ∷ ws) = path_of_links (folded 2 1) (has_link (links (network (folded 2 1)) 0 w)) 0 ∷ recovered ws

abbrev taken_paths : List Path
taken_paths = (0 ∷ 17 ∷ 1 ∷ []) ∷ (17 ∷ 0 ∷ 1 ∷ []) ∷ (0 ∷ 0 ∷ 1 ∷ []) ∷ (17 ∷ 17 ∷ 1 ∷ []) ∷ (1 ∷ 17 ∷ 1 ∷ []) ∷ (1 ∷ 1 ∷ 17 ∷ []) ∷ []

paths_recovered : recovered taken_paths ≡ taken_paths
unfolding path_of_links first_hop_choices way_back walk_from take_first drop_axis any network ports present axis keep from has flip links has_link
paths_recovered = refl
