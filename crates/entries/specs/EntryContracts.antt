-- What the functions over one value of a table ask, answer and write, byte by byte. Nobody has to believe these: the proofs join them to what a table
-- shows before and after (table/Views).
-- Assumes nothing.
use Rattle.std.specs.Prelude.{◌≡◌, List, ℕ, ◌+◌, ◌<◌, length, get_or}
use Rattle.cube.specs.Cube.{port_count}
use Rattle.layout.specs.Layout.{table_length, ports_in, mask_place, mask_number, enable_part, arm_part}
unfoldable pub use Rattle.layout.specs.LayoutContracts.{put_entry, put_owner, put_receiver, put_mask, put_enabled, put_armed}

-- what the functions over one entry ask: the bytes of a table of one layout, a node, and a port or channel within its row
pub record InTable (long width : ℕ) (b : List ℕ) (n p : ℕ) : Type 0 where
  pub bytes : length b ≡ long
  pub node : n < 256
  pub port : p < width

-- of a narrow table
abbrev pub Within : List ℕ → ℕ → ℕ → Type 0
Within b n p = InTable table_length port_count b n p

-- the enable bits of a node as a number, and the byte of its armed channels
unfoldable pub enable_bits : List ℕ → ℕ → ℕ
enable_bits b n = mask_number (ports_in b) b (mask_place (ports_in b) (enable_part (ports_in b)) n)

unfoldable pub arm_bits : List ℕ → ℕ → ℕ
arm_bits b n = get_or b (arm_part (ports_in b) + n) 0
