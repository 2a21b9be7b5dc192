-- When no open is receive rejected (Promises 8): all receive channels of its target are armed, and at most eight links lead into it (proved: ReceiveChannels).
-- Assumes nothing.
use Rattle.std.specs.Prelude.{◌≡◌, true, List, ℕ, ◌≤◌, ◌<◌, length}
use Rattle.cube.specs.Cube.{largest_dimension, channels, NodeOf}
use Rattle.paths.specs.CubeNetwork.{ports}
use Rattle.table.specs.View.{View, view, shape_of}

-- At most eight links lead into a node of the cube, one over each port: D and the folded dimensions are eight at most together, as where nothing is folded. Where more
-- do (Folding 9), all eight channels may be held while a link into their node is free.
abbrev pub FewLinks : View → Type 0
FewLinks v = v.dimension ≤ largest_dimension → length (ports (shape_of v)) ≤ channels

-- all receive channels of a node are armed
abbrev pub AllArmed : List ℕ → ℕ → Type 0
AllArmed b n = (k : ℕ) → k < channels → (view b).armed n k ≡ true

-- those of all nodes of the cube are
abbrev pub CubeArmed : List ℕ → Type 0
CubeArmed b = (n : ℕ) → NodeOf (view b).dimension n → AllArmed b n
