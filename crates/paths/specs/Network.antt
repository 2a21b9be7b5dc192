-- A network of nodes and ports, and paths in it. Nothing here knows a cube: where a port leads and which ports are offered is all there is.
-- Assumes nothing.
use Rattle.std.specs.Prelude.{◌≡◌, ◌≢◌, Bool, true, false, ◌&&◌, ◌||◌, List, [], ◌∷◌, ℕ, suc, eqb}
use Rattle.common.specs.Lists.{◌∈◌, keep, from}

pub record Network : Type 0 where
  -- ports are numbered below this
  pub port_bound : ℕ
  -- the node to which the link out of a port of a node leads
  pub next : ℕ → ℕ → ℕ
  -- whether, towards a target, a node offers a port (in the cube: whether the port is uphill, Paths 1)
  pub offers : ℕ → ℕ → ℕ → Bool
  -- how many hops a target is from a node
  pub distance : ℕ → ℕ → ℕ

-- the ports that node n offers towards target t, rising
unfoldable pub offered : Network → ℕ → ℕ → List ℕ
offered N t n = keep (N.offers t n) (from 0 N.port_bound)

-- a path is the ports taken, in order; a link is a node and a port of it, so each direction is another (Cube 8)
abbrev pub Path : Type 0
Path = List ℕ

abbrev pub Link : Type 0
Link = ℕ × ℕ

-- on by the first port of a list, where it has one
unfoldable pub take_first : List ℕ → (ℕ → Path) → Path
take_first [] on = []
take_first (p ∷ ps) on = p ∷ on p

-- where a path from n leads
unfoldable pub end : Network → ℕ → Path → ℕ
end N n [] = n
end N n (p ∷ w) = end N (N.next n p) w

-- its links, in order
unfoldable pub links : Network → ℕ → Path → List Link
links N n [] = []
links N n (p ∷ w) = (n, p) ∷ links N (N.next n p) w

-- a link is one of a list
unfoldable pub has_link : List Link → ℕ → ℕ → Bool
has_link [] m q = false
has_link (l ∷ ls) m q = (eqb m l.0 && eqb q l.1) || has_link ls m q

-- the links that pass a test are exactly those of the path w from s
pub record Exactly (N : Network) (s : ℕ) (w : Path) (own : ℕ → ℕ → Bool) : Type 0 where
  pub all : (m q : ℕ) → (m, q) ∈ links N s w → own m q ≡ true
  pub only : (m q : ℕ) → own m q ≡ true → (m, q) ∈ links N s w

-- Cube 13: the state of a link, from whether it is enabled and whether a circuit holds it.
pub data LinkState : Type 0 where
  link_free link_held link_blocked : LinkState

unfoldable pub link_state : (enabled held : Bool) → LinkState
link_state false held = link_blocked
link_state true true = link_held
link_state true false = link_free

unfoldable pub is_free : LinkState → Bool
is_free link_free = true
is_free link_held = false
is_free link_blocked = false

-- Paths 13: a path is free if no link of it is otherwise. `free n p` says whether the link out of port p of node n is.
unfoldable pub free_path : Network → (ℕ → ℕ → Bool) → ℕ → Path → Bool
free_path N free n [] = true
free_path N free n (p ∷ w) = free n p && free_path N free (N.next n p) w

-- What the theorems ask of a network, towards a target t. An offered hop comes one nearer (Paths 8);
pub record Nearing (N : Network) (t : ℕ) : Type 0 where
  pub nearer : (n p : ℕ) → p ∈ offered N t n → N.distance t n ≡ suc (N.distance t (N.next n p))

-- and among its nodes, which an offered hop does not leave, something is offered off the target.
pub record Leading (N : Network) (t : ℕ) (Node : ℕ → Type 0) : Type 0 where
  pub inside : (n p : ℕ) → Node n → p ∈ offered N t n → Node (N.next n p)
  pub leads : (n : ℕ) → Node n → n ≢ t → (p : ℕ) × (p ∈ offered N t n)
