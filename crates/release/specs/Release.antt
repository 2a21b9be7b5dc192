-- Freeing the links of a path as the code does it.
-- Assumes nothing.
use Rattle.std.specs.Prelude.{◌≡◌, true, List, ℕ, ◌≤◌, ◌<◌, length, get_or}
use Rattle.cube.specs.Axes.{present}
use Rattle.cube.specs.Cube.{largest_dimension, NodeOf}
use Rattle.layout.specs.Layout.{dimension_at, fold_at}

-- what freeing the links of a path from node n on asks: the bytes of a table, a node of its cube, and a path of ports of the cube
pub record MayFree (long : ℕ) (b : List ℕ) (n : ℕ) (path : List ℕ) : Type 0 where
  pub bytes : length b ≡ long
  pub fits : dimension_at b ≤ largest_dimension
  pub node : NodeOf (dimension_at b) n
  pub there : (i : ℕ) → i < length path → present (dimension_at b) (fold_at b) (get_or path i 0) ≡ true
