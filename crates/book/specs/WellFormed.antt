-- Books 9: when a book is well formed, once more, by places in the index and without a computed test.
-- Assumes nothing.
use Rattle.std.specs.Prelude.{◌≡◌, List, ℕ, suc, ◌+◌, ◌*◌, ◌≤◌, ◌<◌, length}
use Rattle.layout.specs.Layout.{word_at}

-- line i of the index: number, offset and length, two bytes each
abbrev pub circuit_number_at : List ℕ → ℕ → ℕ
circuit_number_at index i = word_at index (6 * i)

abbrev pub offset_at : List ℕ → ℕ → ℕ
offset_at index i = word_at index (6 * i + 2)

abbrev pub length_at : List ℕ → ℕ → ℕ
length_at index i = word_at index (6 * i + 4)

pub record WellFormed (ports index : List ℕ) (circuits hops : ℕ) : Type 0 where
  -- Both counts fit their buffers,
  pub index_fits : 6 * circuits ≤ length index
  pub ports_fit : hops ≤ length ports
  -- circuit numbers rise within 1 to 2,048,
  pub least : (i : ℕ) → i < circuits → 1 ≤ circuit_number_at index i
  pub most : (i : ℕ) → i < circuits → circuit_number_at index i ≤ 2048
  pub rise : (i : ℕ) → suc i < circuits → circuit_number_at index i < circuit_number_at index (suc i)
  -- lengths are 1 to 9,
  pub lengths : (i : ℕ) → i < circuits → (1 ≤ length_at index i) × (length_at index i ≤ 9)
  -- the first offset is 0, each later one the end before it, and the last end is the count of hops.
  pub from_zero : 0 < circuits → offset_at index 0 ≡ 0
  pub no_gap : (i : ℕ) → suc i < circuits → offset_at index (suc i) ≡ offset_at index i + length_at index i
  pub to_count : (i : ℕ) → suc i ≡ circuits → offset_at index i + length_at index i ≡ hops
  pub nothing : circuits ≡ 0 → hops ≡ 0
