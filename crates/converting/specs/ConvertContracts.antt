-- What the functions that write a table in the other layout ask and leave. Nobody has to believe these: the contracts of the conversions are over Converted.
-- Each writes a part that lies behind those written before it, and leaves the bytes before its part as they were.
-- Assumes nothing.
use Rattle.std.specs.Prelude.{cond, ◌≡◌, List, [], ◌∷◌, ◌++◌, ℕ, ◌+◌, ◌*◌, ◌<◌, ◌≤◌, ltb, length, get_or}
use Rattle.layout.specs.Layout.{length_of, mask_place, mask_number, entry_place, word_at, fold_at, owner_at}
use Rattle.entries.specs.EntryContracts.{enable_bits}
use Rattle.common.specs.Tests.{refusal}
use Rattle.cube.specs.Cube.{port_count}
use Rattle.soundness.specs.TableTests.{length_test, table_tests}

-- What the test of both tables answers, of which the one read is to have q ports to a node and the one written r: the refusal of the first test that applies.
pub record BothTested (q r : ℕ) (a c : List ℕ) (answer : ℕ) : Type 0 where
  pub tests : answer ≡ refusal (table_tests q a ++ length_test r c ∷ [])
  pub read : answer ≡ 0 → refusal (table_tests q a) ≡ 0
  pub written : answer ≡ 0 → length c ≡ length_of r

-- bytes that were written from one place on alone
abbrev pub SameBefore : ℕ → List ℕ → List ℕ → Type 0
SameBefore start old new = (j : ℕ) → j < start → get_or new j 0 ≡ get_or old j 0

-- the dimension, and zeros before the masks
pub record FrontWritten (masks D : ℕ) (new : List ℕ) : Type 0 where
  pub dimension : get_or new 0 0 ≡ D
  pub unfolded : (j : ℕ) → 1 ≤ j → j < masks → get_or new j 0 ≡ 0

-- the masks of the first k nodes, of a table with w ports to a node in one with q
pub record MasksCopied (w part q masks : ℕ) (from : List ℕ) (k : ℕ) (old new : List ℕ) : Type 0 where
  pub before : SameBefore masks old new
  pub same : (n : ℕ) → n < k → mask_number q new (mask_place q masks n) ≡ mask_number w from (mask_place w part n)

-- none of them has a bit above those of a narrow table
unfoldable pub MasksFit : ℕ → ℕ → List ℕ → Type 0
MasksFit w part b = (n : ℕ) → n < 256 → mask_number w b (mask_place w part n) < 256

-- a row of links in another, which has nothing at ports that only one of them has
unfoldable pub RowCopied : List ℕ → List ℕ → Type 0
RowCopied row new = (p : ℕ) → 2 * p + 1 < length new → word_at new (2 * p) ≡ cond (ltb p port_count) (word_at row (2 * p)) 0

-- the rows of the first k nodes
pub record LinksCopied (w part q rows : ℕ) (from : List ℕ) (k : ℕ) (old new : List ℕ) : Type 0 where
  pub before : SameBefore rows old new
  pub entries : (n p : ℕ) → n < k → p < q → word_at new (entry_place q rows n p) ≡ cond (ltb p port_count) (word_at from (entry_place w part n p)) 0

-- all bytes from the receive channels on
pub record ChannelsCopied (part receives : ℕ) (from old new : List ℕ) : Type 0 where
  pub before : SameBefore receives old new
  pub same : (j : ℕ) → part + j < length from → get_or new (receives + j) 0 ≡ get_or from (part + j) 0

-- a table that shows nothing that only one of the two layouts has room for
pub record FitsBoth (b : List ℕ) : Type 0 where
  pub unfolded : fold_at b ≡ 0
  pub masks : (n : ℕ) → n < 256 → enable_bits b n < 256
  pub links : (n p : ℕ) → port_count ≤ p → owner_at b n p ≡ 0
