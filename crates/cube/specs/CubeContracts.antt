-- What the functions over nodes and vectors answer, and what is known of the port tried first. Nobody has to believe these: they say of the code what the
-- proofs above it cite.
-- Assumes nothing.
use Rattle.std.specs.Prelude.{Bool, ◌≡◌, true, false, not, ◌&&◌, ◌∷◌, ℕ, ◌+◌, ◌-◌, ◌^◌, ◌≤◌, ◌<◌, eqb}
use Rattle.std.specs.Int.Bits.{bit_xor}
use Rattle.cube.specs.Bits.{has}
use Rattle.common.specs.Decides.{Decides}
use Rattle.cube.specs.Axes.{own_axes, positions, axis, partner, present}
use Rattle.cube.specs.Cube.{largest_dimension, cube_nodes, port_count, uphill}
use Rattle.cube.specs.Helical.{helical, ports_of}

-- the count of nodes for a dimension up to 8, which fits two bytes
pub record NodeCount (D count : ℕ) : Type 0 where
  pub value : count ≡ cube_nodes D
  pub some : 0 < count
  pub most : count ≤ 256

-- a vector that has exactly the uphill ports of n towards t
pub record UphillVector (n t vector : ℕ) : Type 0 where
  pub bits : (p : ℕ) → has vector p ≡ uphill t n p
  pub value : vector ≡ bit_xor n t

-- what a vector is without one of its ports
pub record Without (vector p rest : ℕ) : Type 0 where
  pub value : rest + 2 ^ p ≡ vector
  pub bits : (q : ℕ) → has rest q ≡ (has vector q && not (eqb q p))

-- Paths 3: a vector with the partners of the folded ones among its ports
pub record WithPartners (fold vector wide : ℕ) : Type 0 where
  pub given : (p : ℕ) → p < own_axes → has wide p ≡ has vector p
  pub partners : (p : ℕ) → p < own_axes → has wide (partner p) ≡ (has fold p && has vector p)
  pub small : wide < 2 ^ positions

-- the partners of the ports of a vector, and no other port
pub record Partners (vector mirror : ℕ) : Type 0 where
  pub low : (p : ℕ) → p < own_axes → has mirror p ≡ false
  pub high : (p : ℕ) → p < own_axes → has mirror (partner p) ≡ has vector p
  pub small : mirror < 2 ^ positions

-- what is known of the port p that is tried first of a vector's ports among w positions: it is one of them, and (Order 8) the vector without it
-- has the rest of the order
pub record FirstTried (w vector arrival p : ℕ) : Type 0 where
  pub small : p < w
  pub offered : has vector p ≡ true
  pub rest : helical arrival (ports_of w vector) ≡ p ∷ helical arrival (ports_of w (vector - 2 ^ p))

-- the same of the first port by rule, at every width that holds the vector
pub record FirstByRule (vector arrival p : ℕ) : Type 0 where
  pub tried : (w : ℕ) → vector < 2 ^ w → FirstTried w vector arrival p

-- what is answered to the question whether every port of a vector is one of a cube of so many nodes
unfoldable pub PortsInside : ℕ → ℕ → ℕ → Bool → Type 0
PortsInside fold vector nodes answer = (D : ℕ) → D ≤ largest_dimension → nodes ≡ cube_nodes D → Decides ((p : ℕ) → has vector p ≡ true → present D fold p ≡ true) answer

-- the ports of the axis of port p, among w positions
pub record AxisPorts (w p vector : ℕ) : Type 0 where
  pub bits : (q : ℕ) → q < w → has vector q ≡ eqb (axis q) (axis p)
  pub below : vector < 2 ^ w

-- what it asks on a board: a vector of its ports, not empty, and one of them
pub record FirstAsked (width vector arrival : ℕ) : Type 0 where
  pub some : 0 < vector
  pub ports : vector < 2 ^ width
  pub port : arrival < width

-- what is known of every board: it has a position for each port below the largest dimension, and at most 18; a send arrives on the last (Order 7)
pub record BoardLaws (width send_arrival : ℕ) : Type 0 where
  pub least : port_count ≤ width
  pub most : width ≤ positions
  pub last : send_arrival + 1 ≡ width
