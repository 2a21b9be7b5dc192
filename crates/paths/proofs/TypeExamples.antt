-- Helix paths, the sends of types 1 and 3, and whether waiting can help.
-- Assumes nothing.
use Rattle.std.specs.Prelude.{◌≡◌, refl, Bool, true, false, List, [], ◌∷◌, ℕ}
use Rattle.common.specs.Lists.{keep, from, any}
use Rattle.cube.specs.Bits.{has, flip}
use Rattle.cube.specs.Axes.{axis, present}
use Rattle.cube.specs.Cube.{uphill}
use Rattle.cube.specs.Helical.{helical}
use Rattle.paths.specs.Network.{Path, Link, offered, take_first, end, free_path}
use Rattle.paths.specs.Pass.{over, ways, beginnings, scan, whole, pass, scouts}
use Rattle.paths.specs.Helix.{helix_from, helix_path, free_front, try_paths}
use Rattle.paths.specs.Send.{lowest_available, none_available, acknowledged, route_rejected, receive_rejected, outcome_of_path, attempted, outcome, SendResult, send_goes_on, runs}
use Rattle.paths.specs.CubeNetwork.{Shape, unfolded, ports, network, send_ports, other_ports, attempts, send}
use Rattle.paths.specs.Waiting.{finds_path, some_attempt}
use Rattle.paths.proofs.Examples.{free_but, answer}
use Rattle.paths.proofs.FoldExamples.{folded}

-- Searches 6: helix paths, of ports that are uphill and of ports that are not. Examples 32 has some of them.
abbrev helix_of : Shape → ℕ → ℕ → ℕ → Path
helix_of S = helix_path (network S)

abbrev helix_paths : List Path
helix_paths =
    -- D 3, 0 to 7: ports 0, 1 and 2
    helix_of (unfolded 3) 0 7 0
    ∷ helix_of (unfolded 3) 0 7 1
    ∷ helix_of (unfolded 3) 0 7 2
    -- D 2, 0 to 1: port 1 leads away, and of both ports offered at 2 the arrival port is tried last
    ∷ helix_of (unfolded 2) 0 1 1
    -- D 3, 0 to 3: port 2 leads away, D + 1 hops
    ∷ helix_of (unfolded 3) 0 3 2
    -- D 1, node 0 to itself; with mask 1 the way back is over the partner
    ∷ helix_of (unfolded 1) 0 0 0
    ∷ helix_of (folded 1 1) 0 0 0
    -- D 2, mask 2, 0 to 1: port 1 leads away, 16 back to the source, and 0 on; where nothing is folded no helix path goes on past its source
    ∷ helix_of (folded 2 2) 0 1 1
    ∷ []

abbrev helix_ports : List Path
helix_ports =
    (0 ∷ 1 ∷ 2 ∷ [])
    ∷ (1 ∷ 2 ∷ 0 ∷ [])
    ∷ (2 ∷ 0 ∷ 1 ∷ [])
    ∷ (1 ∷ 0 ∷ 1 ∷ [])
    ∷ (2 ∷ 0 ∷ 1 ∷ 2 ∷ [])
    ∷ (0 ∷ 0 ∷ [])
    ∷ (0 ∷ 17 ∷ [])
    ∷ (1 ∷ 16 ∷ 0 ∷ [])
    ∷ []

helix_ports_lem : helix_paths ≡ helix_ports
unfolding helix_path helix_from take_first network present axis keep from has flip uphill helical offered
helix_ports_lem = refl

-- Searches 7, Searches 8; Examples 23 has some of them.
abbrev helix_sends : List SendResult
helix_sends =
    -- the patent's figure 7, links 1 to 5 and 3 to 7 blocked: type 3 is stopped at its third hop; type 1 goes on to port 1, and type 4 finds that path too
    send 3 (unfolded 3) (free_but ((1, 2) ∷ (3, 2) ∷ [])) (lowest_available 0) 0 7 7
    ∷ send 1 (unfolded 3) (free_but ((1, 2) ∷ (3, 2) ∷ [])) (lowest_available 0) 0 7 7
    ∷ send 4 (unfolded 3) (free_but ((1, 2) ∷ (3, 2) ∷ [])) (lowest_available 0) 0 7 7
    -- D 2, 0 to 2, vector 3: the lowest port is taken, though it leads away
    ∷ send 3 (unfolded 2) (free_but []) (lowest_available 5) 0 3 2
    -- D 2, 0 to 1, vector 2, link 2 to 3 blocked, the second hop: types 3 and 1 do not go back through the source, as type 0 does in Examples 5
    ∷ send 3 (unfolded 2) (free_but ((2, 0) ∷ [])) (lowest_available 0) 0 2 1
    ∷ send 1 (unfolded 2) (free_but ((2, 0) ∷ [])) (lowest_available 0) 0 2 1
    -- D 2, 0 to 3, vector 3: the first hop over port 0 blocked; then the second hop of both paths
    ∷ send 3 (unfolded 2) (free_but ((0, 0) ∷ [])) (lowest_available 0) 0 3 3
    ∷ send 1 (unfolded 2) (free_but ((0, 0) ∷ [])) (lowest_available 0) 0 3 3
    ∷ send 1 (unfolded 2) (free_but ((1, 1) ∷ (2, 0) ∷ [])) (lowest_available 0) 0 3 3
    -- the same with nothing blocked and no receive channel: no further path is tried
    ∷ send 1 (unfolded 2) (free_but []) none_available 0 3 3
    -- D 2, mask 2, 0 to 3, vector 2, link 0 to 2 over port 1 blocked: the partner, port 16, is tried next
    ∷ send 1 (folded 2 2) (free_but ((0, 1) ∷ [])) (lowest_available 0) 0 2 3
    -- D 3, mask 1, 0 to 7, vector 1, link 3 to 7 blocked: the paths of ports 0 and 17 share the link from 1 to 3, which counts twice
    ∷ send 1 (folded 3 1) (free_but ((3, 2) ∷ [])) (lowest_available 0) 0 1 7
    ∷ []

abbrev helix_answers : List SendResult
helix_answers =
    answer route_rejected 2
    ∷ answer (acknowledged (1 ∷ 2 ∷ 0 ∷ []) 0) 5
    ∷ answer (acknowledged (1 ∷ 2 ∷ 0 ∷ []) 0) 5
    ∷ answer (acknowledged (0 ∷ 1 ∷ 0 ∷ []) 5) 3
    ∷ answer route_rejected 1
    ∷ answer route_rejected 1
    ∷ answer route_rejected 0
    ∷ answer (acknowledged (1 ∷ 0 ∷ []) 0) 2
    ∷ answer route_rejected 2
    ∷ answer receive_rejected 2
    ∷ answer (acknowledged (16 ∷ 0 ∷ []) 0) 2
    ∷ answer route_rejected 4
    ∷ []

helix_sends_lem : helix_sends ≡ helix_answers
unfolding send attempts attempted network ports send_ports other_ports present axis keep from has flip uphill helical offered end free_path over ways beginnings scan whole pass scouts helix_path helix_from take_first free_front try_paths outcome_of_path outcome send_goes_on runs
helix_sends_lem = refl

-- Searches 13: whether one of a type's paths has no blocked link. Examples 31 has some of these.
abbrev could_find : ℕ → ℕ → List Link → ℕ → ℕ → ℕ → Bool
could_find type D blocked s vector t = some_attempt (network (unfolded D)) (free_but blocked) s t (attempts (unfolded D) type vector)

abbrev asked : List Bool
asked =
    -- Examples 6, where type 0 answers 22: D 2, 0 to 1, vector 1, link 0 to 1 blocked; type 4 has the other vector's paths too
    could_find 0 2 ((0, 0) ∷ []) 0 1 1
    ∷ could_find 4 2 ((0, 0) ∷ []) 0 1 1
    -- D 2, 0 to 3, vector 1, link 1 to 3 blocked: each type by its own paths
    ∷ could_find 0 2 ((1, 1) ∷ []) 0 1 3
    ∷ could_find 1 2 ((1, 1) ∷ []) 0 1 3
    ∷ could_find 3 2 ((1, 1) ∷ []) 0 1 3
    ∷ could_find 4 2 ((1, 1) ∷ []) 0 1 3
    -- the same with vector 3, over which the lowest port alone is blocked: type 3 has no second path
    ∷ could_find 3 2 ((1, 1) ∷ []) 0 3 3
    ∷ could_find 1 2 ((1, 1) ∷ []) 0 3 3
    -- D 2, 0 to 1, vector 2, link 2 to 3 blocked: the helix path crosses it, another path of type 0 does not
    ∷ could_find 1 2 ((2, 0) ∷ []) 0 2 1
    ∷ could_find 0 2 ((2, 0) ∷ []) 0 2 1
    -- a blocked link off every path: D 2, 0 to 3, vector 1, link 2 to 3
    ∷ could_find 0 2 ((2, 0) ∷ []) 0 1 3
    -- D 1, node 0 to itself, the link back blocked
    ∷ could_find 0 1 ((1, 0) ∷ []) 0 1 0
    ∷ []

could_find_lem : asked ≡ false ∷ true ∷ false ∷ false ∷ false ∷ true ∷ false ∷ true ∷ false ∷ true ∷ true ∷ false ∷ []
unfolding finds_path some_attempt any attempts attempted network ports send_ports other_ports present axis keep from has flip uphill helical offered end free_path over ways beginnings scan whole pass helix_path helix_from take_first free_front try_paths
could_find_lem = refl
