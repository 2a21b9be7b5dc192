-- Counting the hops of a circuit to a node: what the functions that count them answer.
-- Assumes nothing.
use Rattle.std.specs.Prelude.{◌≡◌, ◌⊎◌, ◌≢◌, true, List, [], ◌∷◌, ℕ, ◌+◌, ◌^◌, ◌≤◌, length, Option, Some, None}
use Rattle.common.specs.Lists.{◌∈◌}
use Rattle.cube.specs.Bits.{has}
use Rattle.cube.specs.Axes.{present}
use Rattle.cube.specs.Cube.{next, source_of}
use Rattle.paths.specs.Network.{Path, links, offered, Exactly}
use Rattle.paths.specs.Permitted.{Permitted}
use Rattle.paths.specs.CubeNetwork.{LinkOf, ports, circuit_count}
use Rattle.table.specs.View.{View, shape_of, net, held_by}
use Rattle.circuit_path.specs.CircuitSound.{end_for, CircuitSound}
use Rattle.circuit_hops.specs.Seen.{seen_at, Seen}

-- a vector of one port
unfoldable pub OnePort : ℕ → Type 0
OnePort vector = (p : ℕ) × (vector ≡ 2 ^ p)

-- of the links that circuit c holds at node n, the one out of port p alone is offered towards node t
unfoldable pub Sole : View → ℕ → ℕ → ℕ → ℕ → Type 0
Sole v c t n p = (held_by v c n p ≡ true) × ((q : ℕ) → q ∈ offered (net v) t n → held_by v c n q ≡ true → q ≡ p)

-- w leads on from node n to node t, uphill at every hop, over links of circuit c that are the only ones offered of those that it holds at their nodes
unfoldable pub SoleWay : View → ℕ → ℕ → ℕ → Path → Type 0
SoleWay v c t n [] = n ≡ t
SoleWay v c t n (p ∷ w) = (n ≢ t) × (p ∈ offered (net v) t n) × Sole v c t n p × SoleWay v c t (next n p) w

-- what walking on such a way from node n comes to, after some hops
pub record Walked (v : View) (c t n walked hops : ℕ) : Type 0 where
  pub way : (w : Path) × SoleWay v c t n w × (hops ≡ walked + length w)
  pub most : hops ≤ 9

-- and where it comes to nothing, there is no such way
abbrev pub Walks : View → ℕ → ℕ → ℕ → ℕ → Option ℕ → Type 0
Walks v c t n walked (Some hops) = Walked v c t n walked hops
Walks v c t n walked None = (w : Path) → SoleWay v c t n w → ⊥

-- a path whose links circuit c holds, and no others, from its source over port a
pub record HoldsPath (v : View) (c t a : ℕ) (w : Path) : Type 0 where
  pub permitted : Permitted (net v) (source_of c) (ports (shape_of v)) t (a ∷ w)
  pub exactly : Exactly (net v) (source_of c) (a ∷ w) (held_by v c)

-- circuit c stands on no path to node t
abbrev pub StandsNowhere : View → ℕ → ℕ → Type 0
StandsNowhere v c t = (s : CircuitSound v c) → end_for v c s.path ≡ t → ⊥

-- of the links that circuit c holds at its source, the one by which a path to node t may leave it, as a vector
pub record Leaving (v : View) (c t first : ℕ) : Type 0 where
  pub one : OnePort first
  pub held : (p : ℕ) → has first p ≡ true → (held_by v c (source_of c) p ≡ true) × (present v.dimension v.fold p ≡ true)
  pub leaves : (a : ℕ) (w : Path) → HoldsPath v c t a w → has first a ≡ true

-- and where there is none, the circuit stands on no such path
abbrev pub Leaves : View → ℕ → ℕ → Option ℕ → Type 0
Leaves v c t (Some first) = Leaving v c t first
Leaves v c t None = StandsNowhere v c t

-- a permitted path to node t over links of circuit c, and the circuit's own if it stands on one that ends there
pub record FollowedPath (v : View) (c t hops : ℕ) : Type 0 where
  pub path : Path
  pub permitted : Permitted (net v) (source_of c) (ports (shape_of v)) t path
  pub owned : (m q : ℕ) → (m, q) ∈ links (net v) (source_of c) path → held_by v c m q ≡ true
  pub hop_count : hops ≡ length path
  pub whole : (s : CircuitSound v c) → end_for v c s.path ≡ t → s.path ≡ path

-- what following circuit c to node t and marking it comes to: a circuit that is marked already is not followed again
pub record HopsCounted (v : View) (c t : ℕ) (before after : List ℕ) (hops : ℕ) : Type 0 where
  pub in_range : c ≤ circuit_count (shape_of v)
  pub found : FollowedPath v c t hops
  pub unseen : Seen v before c → ⊥
  pub marks : (s p : ℕ) → LinkOf (shape_of v) s p → (seen_at after s p ≡ true → (seen_at before s p ≡ true) ⊎ (v.owner s p ≡ c))
      × (seen_at before s p ≡ true → seen_at after s p ≡ true) × ((s ≡ source_of c) → held_by v c s p ≡ true → seen_at after s p ≡ true)
  pub most : hops ≤ 9

-- and where it comes to nothing, the number is out of range, or the circuit stands on no path that ends there, or it was marked
abbrev pub CountsHops : View → ℕ → ℕ → List ℕ → List ℕ → Option ℕ → Type 0
CountsHops v c t before after (Some hops) = HopsCounted v c t before after hops
CountsHops v c t before after None = c ≤ circuit_count (shape_of v) → (s : CircuitSound v c) → end_for v c s.path ≡ t → (Seen v before c → ⊥) → ⊥
