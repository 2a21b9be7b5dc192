-- What the functions of this crate ask and answer. Nobody has to believe these: the contract of judging is over Judged.
-- Assumes nothing.
use Rattle.std.specs.Prelude.{◌≡◌, Bool, true, false, not, ◌&&◌, List, [], ◌∷◌, ℕ, ◌+◌, ◌≤◌, ◌<◌, ◌^◌, eqb, ltb, length, get_or, set}
use Rattle.common.specs.Lists.{◌∈◌, keep}
use Rattle.cube.specs.Bits.{has, with_bit}
use Rattle.cube.specs.Axes.{positions, axis, present}
use Rattle.cube.specs.Cube.{next}
use Rattle.paths.specs.BoardPorts.{BoardFor}
use Rattle.paths.specs.Network.{Path, Link, has_link}
use Rattle.paths.specs.CubeNetwork.{Shape, circuit_count}
use Rattle.book.specs.Lookup.{IndexLine, ports_of_line}
use Rattle.judging.specs.Judged.{links_fit}

-- of each line of an index, as of a well-formed book: the number is a circuit's, and it has ports that lie in the other buffer
pub record LineInside (ports : List ℕ) (x : IndexLine) : Type 0 where
  pub least : 1 ≤ x.number
  pub most : x.number ≤ 2048
  pub some : 1 ≤ x.hops
  pub few : x.hops ≤ 9
  pub inside : x.offset + x.hops ≤ length ports

abbrev pub LinesInside : List ℕ → List IndexLine → Type 0
LinesInside ports xs = (x : IndexLine) → x ∈ xs → LineInside ports x

-- and the source of each is a node of a cube, and its ports are ports of that
pub record LineInCube (S : Shape) (ports : List ℕ) (x : IndexLine) : Type 0 where
  pub line : LineInside ports x
  pub source : x.number ≤ circuit_count S
  pub there : (p : ℕ) → p ∈ ports_of_line ports x → present S.dimension S.fold p ≡ true

abbrev pub LinesInCube : Shape → List ℕ → List IndexLine → Type 0
LinesInCube S ports xs = (x : IndexLine) → x ∈ xs → LineInCube S ports x

-- each byte of a path is a port of the cube
abbrev pub PortsOf : Shape → List ℕ → Type 0
PortsOf S path = (i : ℕ) → i < length path → present S.dimension S.fold (get_or path i 0) ≡ true

-- all ports of a cube as a vector, on a board of so many positions
pub record CubePorts (width : ℕ) (S : Shape) (vector : ℕ) : Type 0 where
  pub below : vector < 2 ^ width
  pub most : width ≤ positions
  pub bits : (p : ℕ) → p < positions → has vector p ≡ present S.dimension S.fold p

-- a board for a cube whose table has rows of so many entries, with a position for each port of the cube
pub record BoardOver (rows width fold : ℕ) (S : Shape) : Type 0 where
  pub here : BoardFor rows width fold S
  pub room : (p : ℕ) → present S.dimension S.fold p ≡ true → p < width

-- where ports lead from a node
unfoldable pub leads_to : ℕ → Path → ℕ
leads_to n [] = n
leads_to n (p ∷ w) = leads_to (next n p) w

-- ports that pass a test, no two of them of one axis
unfoldable pub axes_once : (ℕ → Bool) → Path → Bool
axes_once there [] = true
axes_once there (p ∷ w) = there p && axes_once (λ q. there q && not (eqb (axis q) (axis p))) w

-- a path over ports of a cube, of which those behind the first are so
unfoldable pub path_fits : Shape → Path → Bool
path_fits S [] = false
path_fits S (p ∷ w) = present S.dimension S.fold p && axes_once (present S.dimension S.fold) w

-- any number taken for a port of a vector
abbrev pub in_vector : ℕ → ℕ → Bool
in_vector vector p = ltb p positions && has vector p

-- A number for each node, with bit p set where the link out of port p is one of a list.
pub record Used (marks : List ℕ) (ls : List Link) : Type 0 where
  pub long : length marks ≡ 256
  pub bits : (n p : ℕ) → n < 256 → p < positions → has (get_or marks n 0) p ≡ has_link ls n p

-- those marks with one link more
abbrev pub marks_with : List ℕ → ℕ → ℕ → List ℕ
marks_with marks n p = set marks n (with_bit (get_or marks n 0) p true)

-- a list of links, with others before it, the last of them first
unfoldable pub before_with : List Link → List Link → List Link
before_with before [] = before
before_with before (l ∷ ls) = before_with (l ∷ before) ls

-- Using links one after another, where some were used before: it goes through where each is free and new, and then they are used too.
pub record UsesLinks (free : ℕ → ℕ → Bool) (old new : List ℕ) (ls : List Link) (result : Bool) : Type 0 where
  pub fits : (before : List Link) → Used old before → result ≡ links_fit free before ls
  pub used : (before : List Link) → Used old before → result ≡ true → Used new (before_with before ls)

-- A byte for each node: how often it is in a list of targets.
pub record CountsTargets (counts : List ℕ) (ts : List ℕ) : Type 0 where
  pub long : length counts ≡ 256
  pub count : (t : ℕ) → t < 256 → get_or counts t 0 ≡ length (keep (eqb t) ts)
