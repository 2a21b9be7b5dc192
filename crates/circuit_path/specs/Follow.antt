-- Following the links that a circuit holds, as the code does it: a vector of ports is a number.
-- Assumes nothing.
use Rattle.std.specs.Prelude.{◌≡◌, Bool, ◌&&◌, Option, None, Some, List, ℕ, ◌≤◌, ◌<◌, length}
use Rattle.cube.specs.Bits.{has}
use Rattle.cube.specs.Cube.{largest_dimension, source_of, NodeOf}
use Rattle.cube.specs.declared.kinds.Port.{Port}
use Rattle.cube.specs.Helical.{ports_of, first_or}
use Rattle.paths.specs.BoardPorts.{BoardFor}
use Rattle.paths.specs.Network.{Path}
use Rattle.paths.specs.Recover.{walk_from, way_back, first_hop_choices}
use Rattle.layout.specs.Layout.{table_length, dimension_at}
use Rattle.table.specs.View.{View, shape_of, net, held_by}

-- port p is in the vector, and circuit c holds the link out of it
unfoldable pub holds_port : View → ℕ → ℕ → ℕ → ℕ → Bool
holds_port v c n vector p = has vector p && held_by v c n p

-- and holds a way back too, over a port of its axis, on a board of w positions
unfoldable pub comes_back : ℕ → View → ℕ → ℕ → ℕ → ℕ → Bool
comes_back w v c n vector p = holds_port v c n vector p && way_back (net v) (ports_of w vector) (held_by v c) n p

-- the way that the code follows from a node, over the ports of a vector
unfoldable pub links_followed : ℕ → View → ℕ → ℕ → ℕ → Path
links_followed w v c n vector = walk_from w (net v) (ports_of w vector) (held_by v c) n

-- the first hop from the source, if there is one
unfoldable pub first_hop : ℕ → View → ℕ → ℕ → ℕ → ℕ
first_hop w v c s vector = first_or w (first_hop_choices (net v) (ports_of w vector) (held_by v c) s)

-- a port that is found is that of a number below w, and none is where the number is w or more
abbrev pub port_is : ℕ → ℕ → Option Port → Type 0
port_is w k None = w ≤ k
port_is w k (Some p) = (p.0 ≡ k) × (p.0 < w)

-- a board for the cube of a table with q ports
abbrev pub BoardHere : ℕ → ℕ → ℕ → View → Type 0
BoardHere q w f v = BoardFor q w f (shape_of v)

-- what looking for the path of a circuit asks: a table of a cube up to dimension 8, and a circuit whose source is in it
pub record HasSourceIn (long : ℕ) (b : List ℕ) (c : ℕ) : Type 0 where
  pub bytes : length b ≡ long
  pub fits : dimension_at b ≤ largest_dimension
  pub circuit : 0 < c
  pub source : NodeOf (dimension_at b) (source_of c)

-- of a narrow table
abbrev pub HasSource : List ℕ → ℕ → Type 0
HasSource b c = HasSourceIn table_length b c
