-- The path of a circuit from the links that it holds. That it is the one on which a circuit stands is proved (CircuitSound.path_is).
-- Assumes nothing.
use Rattle.std.specs.Prelude.{Bool, true, false, [], ◌∷◌, ℕ}
use Rattle.cube.specs.Cube.{source_of}
use Rattle.paths.specs.Network.{Path}
use Rattle.paths.specs.Recover.{path_of_links}
use Rattle.table.specs.View.{View, shape_of, held_by}

-- Soundness 9: the path that the links held by circuit c make
unfoldable pub path_of : View → ℕ → Path
path_of v c = path_of_links (shape_of v) (held_by v c) (source_of c)

unfoldable pub is_empty : Path → Bool
is_empty [] = true
is_empty (p ∷ w) = false
