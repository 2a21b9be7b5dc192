-- When a circuit is open, as Refusals 9 and Refusals 12 ask.
-- Assumes nothing.
use Rattle.std.specs.Prelude.{Bool, ℕ}
use Rattle.common.specs.Lists.{any}
use Rattle.cube.specs.Cube.{source_of}
use Rattle.paths.specs.CubeNetwork.{ports}
use Rattle.table.specs.View.{View, shape_of, held_by}

-- Calls 17: circuit c is open if it holds a link out of its source.
unfoldable pub is_open_in : View → ℕ → Bool
is_open_in v c = any (held_by v c (source_of c)) (ports (shape_of v))
