-- Marks of nodes: what the sweep over a table's cube leaves in its array, and what its functions ask. Nobody has to believe these: the contract of the public
-- function speaks of the attempts alone.
-- Assumes nothing.
use Rattle.std.specs.Prelude.{◌≡◌, Bool, List, ℕ, ◌≤◌, ◌<◌, true, false, length, get_or}
use Rattle.common.specs.Lists.{any}
use Rattle.cube.specs.Axes.{positions, present}
use Rattle.cube.specs.Cube.{largest_dimension, next, NodeOf, VectorOf}
use Rattle.cube.specs.Helical.{ports_of}
use Rattle.paths.specs.Network.{free_path}
use Rattle.paths.specs.Helix.{helix_path}
use Rattle.paths.specs.Reach.{reaches}
use Rattle.layout.specs.Layout.{dimension_at}
use Rattle.table.specs.View.{view, net, shape_of}
use Rattle.answers.specs.SendAnswer.{BoardIn}

-- a node is marked
abbrev pub reach_mark : List Bool → ℕ → Bool
reach_mark marks n = get_or marks n false

-- a port of a vector leads from node n to a marked one
unfoldable pub leads_to_marked : List Bool → ℕ → ℕ → Bool
leads_to_marked marks n vector = any (λ p. reach_mark marks (next n p)) (ports_of positions vector)

-- a node of a table's cube reaches t over enabled links
unfoldable pub reaches_on : List ℕ → ℕ → ℕ → Bool
reaches_on b t n = reaches (net (view b)) (view b).enabled t n

-- exactly those nodes are marked that do
unfoldable pub ReachMarks : List ℕ → ℕ → List Bool → Type 0
ReachMarks b t marks = (n : ℕ) → NodeOf (dimension_at b) n → reach_mark marks n ≡ reaches_on b t n

-- the links of the helix path of port p are all enabled
unfoldable pub helix_enabled : List ℕ → ℕ → ℕ → ℕ → Bool
helix_enabled b s t p = free_path (net (view b)) (view b).enabled s (helix_path (net (view b)) s t p)

-- what the sweep asks: a table of a cube up to dimension 8 and a board for it, and a target of it
pub record MaySweep (long q w f : ℕ) (b : List ℕ) (t : ℕ) : Type 0 where
  pub board : BoardIn q w f (view b)
  pub bytes : length b ≡ long
  pub fits : dimension_at b ≤ largest_dimension
  pub target : NodeOf (dimension_at b) t

-- what a question asks: a source of it too, and a vector of its ports
pub record MayAsk (long q w f : ℕ) (b : List ℕ) (s t vector : ℕ) : Type 0 where
  pub sweep : MaySweep long q w f b t
  pub source : NodeOf (dimension_at b) s
  pub ports : VectorOf (dimension_at b) vector

-- a port of the cube, on its board
pub record CubePort (w : ℕ) (b : List ℕ) (p : ℕ) : Type 0 where
  pub small : p < w
  pub there : present (shape_of (view b)).dimension (shape_of (view b)).fold p ≡ true
