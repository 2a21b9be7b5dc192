-- The definitions compute to what they are to say, on small cubes; and sets of links that stop a send, in cubes of each dimension.
-- Assumes nothing.
use Rattle.std.specs.Prelude.{◌≡◌, refl, List, [], ◌∷◌, map, ℕ, length}
use Rattle.common.specs.Lists.{keep, from}
use Rattle.cube.specs.Bits.{has, flip}
use Rattle.cube.specs.Axes.{axis, present}
use Rattle.cube.specs.Cube.{uphill}
use Rattle.cube.specs.Helical.{helical}
use Rattle.paths.specs.Network.{Link, offered, take_first, end, links, free_path}
use Rattle.paths.specs.Helix.{helix_from, helix_path, free_front, try_paths}
use Rattle.paths.specs.Pass.{over, ways, beginnings, scan, whole, pass, scouts}
use Rattle.paths.specs.Send.{lowest_available, Outcome, acknowledged, route_rejected, outcome_of_path, attempted, outcome, send_goes_on, runs}
use Rattle.paths.specs.CubeNetwork.{Shape, unfolded, ports, network, send_ports, other_ports, attempts, send}
use Rattle.paths.proofs.Examples.{free_but}
use Rattle.paths.proofs.FoldExamples.{folded}
use Rattle.faults.specs.Faults.{links_out, all_links, failing, full_vector}

-- D 1: two links; with the dimension folded four
links_of_one : all_links (unfolded 1) ≡ (0, 0) ∷ (1, 0) ∷ []
unfolding all_links links_out ports present axis keep from has
links_of_one = refl

links_of_folded : all_links (folded 1 1) ≡ (0, 0) ∷ (0, 17) ∷ (1, 0) ∷ (1, 17) ∷ []
unfolding all_links links_out ports present axis keep from has
links_of_folded = refl

-- D 3: 24 links; two of them fail, one listed twice and one of no cube of dimension 3
counted : length (all_links (unfolded 3)) ∷ failing (unfolded 3) (free_but ((0, 1) ∷ (7, 2) ∷ (0, 1) ∷ (8, 0) ∷ [])) ∷ [] ≡ 24 ∷ 2 ∷ []
unfolding failing all_links links_out ports present axis keep from has
counted = refl

full_vectors : map full_vector (from 1 8) ≡ 1 ∷ 3 ∷ 7 ∷ 15 ∷ 31 ∷ 63 ∷ 127 ∷ 255 ∷ []
unfolding full_vector from
full_vectors = refl

-- D 3, 0 to 3: the helix paths of ports 0, 1 and 2, of which the last goes through the other half of the cube; and from 5 to itself
paths_of_three : map (λ p. links (network (unfolded 3)) 0 (helix_path (network (unfolded 3)) 0 3 p)) (from 0 3)
    ≡ ((0, 0) ∷ (1, 1) ∷ []) ∷ ((0, 1) ∷ (2, 0) ∷ []) ∷ ((0, 2) ∷ (4, 0) ∷ (5, 1) ∷ (7, 2) ∷ []) ∷ []
unfolding links helix_path helix_from take_first network ports present axis keep from has flip uphill helical offered
paths_of_three = refl

paths_to_itself : map (λ p. links (network (unfolded 3)) 5 (helix_path (network (unfolded 3)) 5 5 p)) (from 0 3)
    ≡ ((5, 0) ∷ (4, 0) ∷ []) ∷ ((5, 1) ∷ (7, 1) ∷ []) ∷ ((5, 2) ∷ (1, 2) ∷ []) ∷ []
unfolding links helix_path helix_from take_first network ports present axis keep from has flip uphill helical offered
paths_to_itself = refl

-- what a send over all ports comes to, of a type, from s to t where the links listed are not free
abbrev over_all : ℕ → Shape → List Link → (s t : ℕ) → Outcome
over_all y S bad s t = (send y S (free_but bad) (lowest_available 0) s (full_vector S.dimension) t).outcome

-- D links stop it: those out of node 0, for each type and D 1 to 3, and of type 1 up to D 8; those into node 7; and the two between nodes 0 and 1
out_of_zero : List Link
out_of_zero = (0, 0) ∷ (0, 1) ∷ (0, 2) ∷ (0, 3) ∷ (0, 4) ∷ (0, 5) ∷ (0, 6) ∷ (0, 7) ∷ []

stopped : over_all 0 (unfolded 1) ((0, 0) ∷ []) 0 1
    ∷ over_all 1 (unfolded 1) ((0, 0) ∷ []) 0 1
    ∷ over_all 4 (unfolded 1) ((0, 0) ∷ []) 0 1
    ∷ over_all 0 (unfolded 2) ((0, 0) ∷ (0, 1) ∷ []) 0 3
    ∷ over_all 1 (unfolded 2) ((0, 0) ∷ (0, 1) ∷ []) 0 3
    ∷ over_all 4 (unfolded 2) ((0, 0) ∷ (0, 1) ∷ []) 0 3
    ∷ over_all 0 (unfolded 3) ((6, 0) ∷ (5, 1) ∷ (3, 2) ∷ []) 0 7
    ∷ over_all 1 (unfolded 3) ((6, 0) ∷ (5, 1) ∷ (3, 2) ∷ []) 0 7
    ∷ over_all 4 (unfolded 3) ((6, 0) ∷ (5, 1) ∷ (3, 2) ∷ []) 0 7
    ∷ []
    ≡ route_rejected ∷ route_rejected ∷ route_rejected ∷ route_rejected ∷ route_rejected ∷ route_rejected ∷ route_rejected ∷ route_rejected ∷ route_rejected ∷ []
unfolding full_vector send attempts attempted network ports send_ports other_ports present axis keep from has flip uphill helical offered end free_path over ways beginnings scan whole pass scouts outcome_of_path outcome send_goes_on runs take_first helix_from helix_path free_front try_paths
stopped = refl

stopped_by_eight : over_all 1 (unfolded 8) out_of_zero 0 255 ∷ over_all 1 (unfolded 7) out_of_zero 0 1 ∷ over_all 1 (unfolded 6) out_of_zero 0 0 ∷ []
    ≡ route_rejected ∷ route_rejected ∷ route_rejected ∷ []
unfolding out_of_zero full_vector send attempts attempted network ports send_ports other_ports present axis keep from has flip uphill helical offered end free_path over ways beginnings scan whole pass scouts outcome_of_path outcome send_goes_on runs take_first helix_from helix_path free_front try_paths
stopped_by_eight = refl

failing_of_eight : failing (unfolded 8) (free_but out_of_zero) ≡ 8
unfolding out_of_zero failing all_links links_out ports present axis keep from has
failing_of_eight = refl

-- With both dimensions folded two helix paths may share a link, those of ports 1 and 16 from 0 to 3 the one out of node 2 over 17: two links, fewer than four, stop type 1, and
-- not type 0.
shared_when_folded : map (λ p. links (network (folded 2 3)) 0 (helix_path (network (folded 2 3)) 0 3 p)) (1 ∷ 16 ∷ [])
    ≡ ((0, 1) ∷ (2, 17) ∷ []) ∷ ((0, 16) ∷ (2, 17) ∷ []) ∷ []
unfolding links helix_path helix_from take_first network ports present axis keep from has flip uphill helical offered
shared_when_folded = refl

stopped_when_folded : over_all 1 (folded 2 3) ((1, 1) ∷ (2, 17) ∷ []) 0 3 ∷ over_all 0 (folded 2 3) ((1, 1) ∷ (2, 17) ∷ []) 0 3 ∷ []
    ≡ route_rejected ∷ acknowledged (0 ∷ 16 ∷ []) 0 ∷ []
unfolding full_vector send attempts attempted network ports send_ports other_ports present axis keep from has flip uphill helical offered end free_path over ways beginnings scan whole pass scouts outcome_of_path outcome send_goes_on runs take_first helix_from helix_path free_front try_paths
stopped_when_folded = refl

-- nor is D a bound there: with D 3 and the middle dimension folded, two links stop it from 0 to 5
stopped_by_two : over_all 1 (folded 3 2) ((1, 2) ∷ (4, 0) ∷ []) 0 5 ∷ over_all 4 (folded 3 2) ((1, 2) ∷ (4, 0) ∷ []) 0 5 ∷ []
    ≡ route_rejected ∷ acknowledged (1 ∷ 2 ∷ 0 ∷ 1 ∷ []) 0 ∷ []
unfolding full_vector send attempts attempted network ports send_ports other_ports present axis keep from has flip uphill helical offered end free_path over ways beginnings scan whole pass scouts outcome_of_path outcome send_goes_on runs take_first helix_from helix_path free_front try_paths
stopped_by_two = refl

-- and four stop type 0
four_when_folded : over_all 0 (folded 2 3) ((0, 0) ∷ (0, 1) ∷ (0, 16) ∷ (0, 17) ∷ []) 0 3 ∷ over_all 4 (folded 2 3) ((0, 0) ∷ (0, 1) ∷ (0, 16) ∷ (0, 17) ∷ []) 0 3 ∷ []
    ≡ route_rejected ∷ route_rejected ∷ []
unfolding full_vector send attempts attempted network ports send_ports other_ports present axis keep from has flip uphill helical offered end free_path over ways beginnings scan whole pass scouts outcome_of_path outcome send_goes_on runs take_first helix_from helix_path free_front try_paths
four_when_folded = refl
