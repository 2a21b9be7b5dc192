-- What the functions over rows of a table ask and answer. Nobody has to believe these: the proofs join them to what a table shows.
-- Assumes nothing.
use Rattle.std.specs.Prelude.{Bool, true, ◌≡◌, List, ℕ, ◌/◌, ◌%◌, ◌^◌, ◌<◌, ◌≤◌, eqb, length}
use Rattle.common.specs.Lists.{keep, from, lowest}
use Rattle.cube.specs.Bits.{has}
use Rattle.cube.specs.Cube.{channels, cube_nodes}
use Rattle.layout.specs.Layout.{owner_at}
use Rattle.entries.specs.EntryContracts.{enable_bits, arm_bits}
use Rattle.paths.specs.CubeNetwork.{LinkOf}
use Rattle.table.specs.View.{View, view, shape_of, available}

-- Soundness 3: every bit of an enable mask is that of a link of the cube
unfoldable pub EnablesFit : List ℕ → Type 0
EnablesFit b = (n p : ℕ) → n < 256 → has (enable_bits b n) p ≡ true → LinkOf (shape_of (view b)) n p

-- Soundness 3: no receive channel is armed at a node that a cube of dimension D lacks
unfoldable pub ArmsFit : List ℕ → ℕ → Type 0
ArmsFit b D = (n : ℕ) → cube_nodes D ≤ n → n < 256 → arm_bits b n ≡ 0

-- the ports of a node whose links circuit c holds, as a vector
pub record HeldIn (q : ℕ) (b : List ℕ) (c n vector : ℕ) : Type 0 where
  pub small : vector < 2 ^ q
  pub held : (p : ℕ) → p < q → has vector p ≡ eqb (owner_at b n p) c

-- how many of the first i places pass a test, where places run node by node, q to each: links, or receive channels
unfoldable pub place_count : ℕ → (ℕ → ℕ → Bool) → ℕ → ℕ
place_count q f i = length (keep (λ l. f (l / q) (l % q)) (from 0 i))

-- how many of the q links of node n circuit c holds
unfoldable pub links_held_of : ℕ → View → ℕ → ℕ → ℕ
links_held_of q v c n = length (keep (λ p. eqb (v.owner n p) c) (from 0 q))

-- the available receive channels of a node as a vector
pub record AvailableVector (v : View) (n vector : ℕ) : Type 0 where
  pub small : vector < 256
  pub bits : (k : ℕ) → k < channels → has vector k ≡ available v n k

-- Searches 9: the lowest available channel; the number of channels where there is none
unfoldable pub lowest_channel : View → ℕ → ℕ
lowest_channel v n = lowest (available v n) channels 0
