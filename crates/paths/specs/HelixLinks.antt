-- The links of a helix path, by node and port. The path is the same in each cube that has its source, its target, its first port and its fold mask: the one of the
-- largest dimension stands for all.
-- Assumes nothing.
use Rattle.std.specs.Prelude.{◌≡◌, true, List, ℕ, ◌<◌}
use Rattle.cube.specs.Axes.{present}
use Rattle.cube.specs.Cube.{largest_dimension}
use Rattle.paths.specs.Network.{Network, Link, links}
use Rattle.paths.specs.Helix.{helix_path}
use Rattle.paths.specs.CubeNetwork.{Shape, network}

-- the largest cube with a fold mask
abbrev pub largest : ℕ → Shape
largest fold = record { dimension = largest_dimension; fold = fold }

-- a node and a port of it, on a board of so many positions
abbrev pub LinkInside : ℕ → ℕ → ℕ → ℕ → Type 0
LinkInside width fold n p = (n < 256) × (p < width) × (present largest_dimension fold p ≡ true)

unfoldable pub largest_network : ℕ → Network
largest_network fold = network (largest fold)

unfoldable pub helix_links : ℕ → ℕ → ℕ → ℕ → List Link
unfolding largest_network
helix_links fold s t p = links (largest_network fold) s (helix_path (largest_network fold) s t p)
