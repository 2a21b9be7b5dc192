-- How many links of a cube fail a test, and the sends that so few of them cannot stop.
-- Assumes nothing.
use Rattle.std.specs.Prelude.{◌≡◌, ◌⊎◌, true, Bool, not, List, [], ◌∷◌, ◌++◌, map, ℕ, ◌-◌, ◌<◌, ◌^◌, length}
use Rattle.common.specs.Lists.{keep, from}
use Rattle.cube.specs.Bits.{has}
use Rattle.cube.specs.Cube.{cube_nodes}
use Rattle.paths.specs.Network.{Link}
use Rattle.paths.specs.CubeNetwork.{Shape, ports}

-- the links out of the nodes of a list, each by node and port
unfoldable pub links_out : Shape → List ℕ → List Link
links_out S [] = []
links_out S (n ∷ ns) = map (λ (p : ℕ). (n, p)) (ports S) ++ links_out S ns

-- all links of a cube
unfoldable pub all_links : Shape → List Link
all_links S = links_out S (from 0 (cube_nodes S.dimension))

-- how many of them fail a test: where the test says that a link is free, those that are blocked or held, and where it says that a link is enabled, the blocked ones
unfoldable pub failing : Shape → (ℕ → ℕ → Bool) → ℕ
failing S passes = length (keep (λ (l : Link). not (passes l.0 l.1)) (all_links S))

-- the send vector with every port below D
unfoldable pub full_vector : ℕ → ℕ
full_vector D = 2 ^ D - 1

-- the types that try each port of the send vector: every permitted path, or one path for each port
abbrev pub MazeType : ℕ → Type 0
MazeType y = (y ≡ 0) ⊎ (y ≡ 4)

abbrev pub EachPortType : ℕ → Type 0
EachPortType y = (y ≡ 0) ⊎ (y ≡ 1) ⊎ (y ≡ 4)

-- every dimension of the cube is folded
abbrev pub AllFolded : Shape → Type 0
AllFolded S = (p : ℕ) → p < S.dimension → has S.fold p ≡ true
