-- Boards for a cube, and vectors of its ports as a board has them.
-- Assumes nothing.
use Rattle.std.specs.Prelude.{◌≡◌, true, ℕ, ◌^◌, ◌≤◌, ◌<◌}
use Rattle.cube.specs.Axes.{positions, present}
use Rattle.cube.specs.Bits.{has}
use Rattle.paths.specs.CubeNetwork.{Shape}

-- What is asked of a board of so many positions and a fold mask, for a cube whose table has rows of so many entries: a row has room for its ports, and the cube has that mask.
pub record BoardFor (rows width fold : ℕ) (S : Shape) : Type 0 where
  pub row : width ≤ rows
  pub most : width ≤ positions
  pub folded : fold ≡ S.fold

-- a vector of the ports of a cube, on a board of so many positions
pub record BoardPorts (width : ℕ) (S : Shape) (vector : ℕ) : Type 0 where
  pub below : vector < 2 ^ width
  pub there : (p : ℕ) → has vector p ≡ true → present S.dimension S.fold p ≡ true
