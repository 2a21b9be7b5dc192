-- What the functions that write the joined table ask and leave. Nobody has to believe these: the contract of joining is over Joined.
-- Assumes nothing.
use Rattle.std.specs.Prelude.{◌≡◌, List, ℕ, ◌+◌, ◌*◌, ◌<◌, ◌≤◌, ◌^◌, length, get_or}
use Rattle.std.specs.Int.Bits.{bit_or}
use Rattle.cube.specs.Cube.{largest_dimension, port_count, channels}
use Rattle.layout.specs.Layout.{table_length, word_at, mask_place, enable_part, dimension_at, entry_place, entry_at}
use Rattle.layout.specs.LayoutContracts.{SameOutside}
use Rattle.table.specs.View.{view}
use Rattle.soundness.specs.Sound.{Sound}
use Rattle.joining.specs.Joined.{renumbered}

-- Some circuits, two bytes each: their numbers have room for the gain,
unfoldable pub WordsFit : List ℕ → ℕ → Type 0
WordsFit rows gain = (i : ℕ) → 2 * i + 1 < length rows → word_at rows (2 * i) + gain < 65536

-- and in another list of as many they have it.
unfoldable pub WordsGained : List ℕ → ℕ → List ℕ → Type 0
WordsGained rows gain new = (i : ℕ) → 2 * i + 1 < length rows → word_at new (2 * i) ≡ renumbered gain (word_at rows (2 * i))

-- The rows of so many nodes, from the first on, hold circuits of these nodes,
unfoldable pub RowsFit : ℕ → ℕ → List ℕ → Type 0
RowsFit part nodes b = (n k : ℕ) → n < nodes → k < port_count → entry_at 8 part b n k ≤ channels * nodes

-- and are written behind as many rows of another table, each circuit renumbered.
pub record RowsBehind (part nodes : ℕ) (second old new : List ℕ) : Type 0 where
  pub others : SameOutside (entry_place 8 part nodes 0) (entry_place 8 part (2 * nodes) 0) old new
  pub entries : (n k : ℕ) → n < nodes → k < port_count → entry_at 8 part new (nodes + n) k ≡ renumbered (channels * nodes) (entry_at 8 part second n k)

-- So are their masks.
pub record MasksBehind (part nodes : ℕ) (second old new : List ℕ) : Type 0 where
  pub others : SameOutside (mask_place 8 part nodes) (mask_place 8 part (2 * nodes)) old new
  pub masks : (n : ℕ) → n < nodes → get_or new (mask_place 8 part (nodes + n)) 0 ≡ get_or second (mask_place 8 part n) 0

-- one bit set in each of some masks,
unfoldable pub PortSet : ℕ → List ℕ → List ℕ → Type 0
PortSet p old new = (n : ℕ) → n < length old → get_or new n 0 ≡ bit_or (get_or old n 0) (2 ^ p)

-- and in those of enabled links of so many nodes, from the first on
pub record PortEnabled (p nodes : ℕ) (old new : List ℕ) : Type 0 where
  pub others : SameOutside (mask_place 8 (enable_part 8) 0) (mask_place 8 (enable_part 8) nodes) old new
  pub masks : (n : ℕ) → n < nodes → get_or new (mask_place 8 (enable_part 8) n) 0 ≡ bit_or (get_or old (mask_place 8 (enable_part 8) n) 0) (2 ^ p)

-- two sound tables of one dimension, below the largest
pub record Joinable (a b : List ℕ) (dimension : ℕ) : Type 0 where
  pub first_long : length a ≡ table_length
  pub second_long : length b ≡ table_length
  pub first : dimension ≡ dimension_at a
  pub second : dimension ≡ dimension_at b
  pub room : dimension < largest_dimension
  pub first_sound : Sound (view a)
  pub second_sound : Sound (view b)
