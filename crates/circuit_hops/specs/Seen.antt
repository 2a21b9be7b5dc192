-- Marks of circuits that were followed: a number for each node, with bit p set where the circuit that holds the link out of port p starts at that node and
-- was followed.
-- Assumes nothing.
use Rattle.std.specs.Prelude.{◌≡◌, Bool, true, List, ℕ, get_or, set}
use Rattle.std.specs.Int.Bits.{bit_or}
use Rattle.cube.specs.Bits.{has}
use Rattle.cube.specs.Cube.{source_of}
use Rattle.paths.specs.CubeNetwork.{LinkOf}
use Rattle.table.specs.View.{View, shape_of, held_by}

unfoldable pub seen_at : List ℕ → ℕ → ℕ → Bool
seen_at m n p = has (get_or m n 0) p

-- the marks after the links of a vector are marked at node n
unfoldable pub with_marks : List ℕ → ℕ → ℕ → List ℕ
with_marks m n vector = set m n (bit_or (get_or m n 0) vector)

-- a link that circuit c holds at its source is marked
unfoldable pub Seen : View → List ℕ → ℕ → Type 0
Seen v m c = (p : ℕ) × LinkOf (shape_of v) (source_of c) p × (held_by v c (source_of c) p ≡ true) × (seen_at m (source_of c) p ≡ true)
