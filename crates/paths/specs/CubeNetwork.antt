-- The cube as a network by axis, the ports of a send vector, and the routing types.
-- Assumes nothing.
use Rattle.std.specs.Prelude.{◌≡◌, Bool, true, cond, not, ◌&&◌, List, [], ◌∷◌, map, ℕ, ◌*◌, ◌<◌, eqb, ltb, length, take}
use Rattle.common.specs.Lists.{keep, from}
use Rattle.cube.specs.Bits.{has}
use Rattle.cube.specs.Cube.{channels, cube_nodes, NodeOf, next, uphill}
use Rattle.cube.specs.Axes.{positions, axis, present}
use Rattle.paths.specs.Network.{Network}
use Rattle.paths.specs.Send.{Receive, Attempt, pass_over, helix_paths, attempted, SendResult, runs}

-- what a network is read from: the dimension of the cube and its fold mask (Cube 1, Cube 3)
pub record Shape : Type 0 where
  pub dimension : ℕ
  pub fold : ℕ

-- a cube none of whose dimensions is folded
abbrev pub unfolded : ℕ → Shape
unfolded D = record { dimension = D; fold = 0 }

-- Cube 1: its nodes, as a statement and as a test. Cube 11: how many circuits it has, one for each send channel of each node.
abbrev pub Node : Shape → ℕ → Type 0
Node S n = NodeOf S.dimension n

abbrev pub is_node : Shape → ℕ → Bool
is_node S n = ltb n (cube_nodes S.dimension)

abbrev pub circuit_count : Shape → ℕ
circuit_count S = channels * cube_nodes S.dimension

-- Cube 8: the links of a cube, by node and port. Folding 2: those over a partner are others.
abbrev pub LinkOf : Shape → ℕ → ℕ → Type 0
LinkOf S n p = Node S n × (present S.dimension S.fold p ≡ true)

abbrev pub is_link_of : Shape → ℕ → ℕ → Bool
is_link_of S n p = is_node S n && present S.dimension S.fold p

-- Cube 4: the ports that every node has, rising
unfoldable pub ports : Shape → List ℕ
ports S = keep (present S.dimension S.fold) (from 0 positions)

-- the axes of the cube, one for each dimension
abbrev pub axes : Shape → List ℕ
axes S = from 0 S.dimension

-- Cube 6: a port leads to the node that differs in the bit of its axis. Paths 1: ports whose axis is uphill are offered. Paths 7: the target is as many
-- hops away as there are uphill axes.
unfoldable pub network : Shape → Network
network S =
    record {
      port_bound = positions;
      next = next;
      offers = λ t n q. present S.dimension S.fold q && uphill t n (axis q);
      distance = λ t n. length (keep (uphill t n) (axes S));
    }

-- The ports that a send vector offers (Paths 3), and those of a second pass (Searches 5), both rising. A vector gains the partners of its folded ports,
-- so a port is in it by its axis.
unfoldable pub send_ports : Shape → ℕ → List ℕ
send_ports S vector = keep (λ q. has vector (axis q)) (ports S)

unfoldable pub other_ports : Shape → ℕ → List ℕ
other_ports S vector = keep (λ q. not (has vector (axis q))) (ports S)

-- Searches 1: what a routing type tries.
-- Searches 3: type 0 makes one pass over the ports that the vector offers. Searches 4: type 4 makes that pass, and then a second over the other ports,
-- if the send does not end before (`send_goes_on`).
-- Searches 7: type 3 tries the helix path of the lowest port of the vector, and no other. Searches 8: type 1 those of all ports that it offers, rising.
-- Folding 11: so type 1 tries partners too, and the lowest port is none.
unfoldable pub attempts : Shape → ℕ → ℕ → List Attempt
attempts S type vector =
    cond (eqb type 3) (helix_paths (take 1 (send_ports S vector)) ∷ [])
    (cond (eqb type 1) (helix_paths (send_ports S vector) ∷ [])
    (pass_over (send_ports S vector) ∷ cond (eqb type 4) (pass_over (other_ports S vector) ∷ []) []))

-- Searches 1: the send of a routing type
unfoldable pub send : ℕ → Shape → (ℕ → ℕ → Bool) → Receive → ℕ → ℕ → ℕ → SendResult
send type S free r s vector t = runs r (map (attempted (network S) free s t) (attempts S type vector))
