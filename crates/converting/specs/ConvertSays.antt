-- Wide 10 to 14 rule by rule: what Converted defines of bytes and numbers, said again (proved: ConvertNumbers, Alike; that the rules leave no choice: SaysExactly),
-- and what that comes to (proved: Alike); and of a wide table that was folded and unfolded again (proved: Unfolded).
-- Assumes nothing.
use Rattle.std.specs.Prelude.{◌≡◌, ◌≢◌, ◌↔◌, true, List, [], ◌∷◌, ◌++◌, ℕ, ◌^◌, ◌≤◌, ◌<◌, length}
use Rattle.common.specs.Tests.{refusal}
use Rattle.cube.specs.Bits.{has}
use Rattle.layout.specs.Layout.{length_of}
use Rattle.table.specs.View.{view}
use Rattle.soundness.specs.Sound.{Sound}
use Rattle.soundness.specs.TableTests.{table_tests}
use Rattle.ownership.specs.Calls.{Call, folding, OfKind, only}
use Rattle.ownership.specs.Closing.{Each}
use Rattle.ownership.specs.OnTable.{done}
use Rattle.ownership.specs.Agrees.{Accepted, table_after, table_results}
use Rattle.converting.specs.Converted.{convert_step, narrow_step}

-- a table with q ports to a node passes 1 to 3: it has its length and its dimension, and is sound
abbrev pub PassesTests : ℕ → List ℕ → Type 0
PassesTests q a = refusal (table_tests q a) ≡ 0

-- Wide 12: what each number of widening means. Of any outcome of a call on two tables: a is the narrow one, c the wide one before; number is what it answers, and d are
-- the bytes of the wide one afterwards.
pub record WidenNumber (a c : List ℕ) (number : ℕ) (d : List ℕ) : Type 0 where
  -- 1, 2 and 3 of the table read,
  pub read : (PassesTests 8 a → ⊥) → number ≡ refusal (table_tests 8 a)
  -- then 1 of the one written
  pub written : PassesTests 8 a → length c ≢ 14338 → number ≡ 1
  pub accepted : (number ≡ 0) ↔ (PassesTests 8 a × (length c ≡ 14338))
  pub unchanged : number ≢ 0 → d ≡ c

-- Wide 12, of going back: a is the wide one, c the narrow one before, and d the narrow one afterwards.
pub record NarrowNumber (a c : List ℕ) (number : ℕ) (d : List ℕ) : Type 0 where
  pub read : (PassesTests 18 a → ⊥) → number ≡ refusal (table_tests 18 a)
  pub written : PassesTests 18 a → length c ≢ 8705 → number ≡ 1
  -- Soundness 2: a stored fold bit at or above D is unsound. It is refused before the fold mask is looked at.
  pub stray : length a ≡ 14338 → 1 ≤ (view a).dimension → (view a).dimension ≤ 8 → (p : ℕ) → (view a).dimension ≤ p → has (view a).fold p ≡ true → number ≡ 3
  -- Refusals 24
  pub folded : PassesTests 18 a → length c ≡ 8705 → (view a).fold ≢ 0 → number ≡ 24
  pub accepted : (number ≡ 0) ↔ (PassesTests 18 a × (length c ≡ 8705) × ((view a).fold ≡ 0))
  pub unchanged : number ≢ 0 → d ≡ c

-- Wide 10, Wide 11, of an accepted conversion: a are the bytes of the table read, and d those of the one written, with r ports to a node, afterwards.
pub record ConvertSays (r : ℕ) (a d : List ℕ) : Type 0 where
  -- both show the same: dimension and fold mask, which links are enabled, who holds links and receive channels, which of these are armed
  pub dimension : (view d).dimension ≡ (view a).dimension
  pub fold : (view d).fold ≡ (view a).fold
  pub enabled : (n p : ℕ) → (view d).enabled n p ≡ (view a).enabled n p
  pub owner : (n p : ℕ) → (view d).owner n p ≡ (view a).owner n p
  pub receiver : (n k : ℕ) → (view d).receiver n k ≡ (view a).receiver n k
  pub armed : (n k : ℕ) → (view d).armed n k ≡ (view a).armed n k
  -- so the table written is one: it passes 1 to 3, and what a sound table is holds of it
  pub passes : PassesTests r d
  pub is_sound : Sound (view d)

-- Wide 14: there and back gives the same bytes. Of a table with q ports to a node that was converted and the one with r ports that was written of it, whatever table with q
-- ports that one is converted to
unfoldable pub ThereAndBack : (q r : ℕ) → (read written : List ℕ) → Type 0
ThereAndBack q r a d = (e : List ℕ) → length e ≡ length_of q → convert_step r q d e ≡ done a 0 [] []

-- two tables that convert into each other
pub record ConvertBoth (q r : ℕ) (a d : List ℕ) : Type 0 where
  pub there : (c : List ℕ) → length c ≡ length_of r → convert_step q r a c ≡ done d 0 [] []
  pub back : ThereAndBack q r a d

-- Wide 13: the same answers in both: whatever calls of both kinds are made on one of them and on the other, each answers the same and fills its buffers
-- alike; and what they leave are tables that convert into each other. Setting a fold mask is no call of both kinds.
pub record SameInBoth (q r : ℕ) (a d : List ℕ) : Type 0 where
  pub answers : (calls : List Call) → Each (OfKind q) calls → Each (OfKind r) calls → table_results q a calls ≡ table_results r d calls
  pub leave : (calls : List Call) → Each (OfKind q) calls → Each (OfKind r) calls → ConvertBoth q r (table_after q a calls) (table_after r d calls)

-- a table d, which was written of a narrow table a, once a fold mask was set on it, and once that was set to 0 again
abbrev pub folded_by : List ℕ → ℕ → List ℕ
folded_by d mask = table_after 18 d (folding mask ∷ [])

abbrev pub unfolded_after : List ℕ → ℕ → List ℕ
unfolded_after d mask = table_after 18 d (folding mask ∷ folding 0 ∷ [])

-- Wide 14, of such a table, whatever mask of its dimension is set.
pub record FoldedBetween (a d : List ℕ) : Type 0 where
  -- both calls are accepted,
  pub accepted : (mask : ℕ) → mask < 2 ^ (view a).dimension → table_results 18 d (folding mask ∷ folding 0 ∷ []) ≡ only 0 ∷ only 0 ∷ []
  -- the folded table does not go back,
  pub refused : (mask : ℕ) → mask < 2 ^ (view a).dimension → mask ≢ 0 → (c : List ℕ) → length c ≡ 8705 → narrow_step (folded_by d mask) c ≡ done c 24 [] []
  -- and unfolded it has the bytes that it had, so that it goes back to the narrow table that it was written of.
  pub same : (mask : ℕ) → mask < 2 ^ (view a).dimension → unfolded_after d mask ≡ d
  pub back : (mask : ℕ) → mask < 2 ^ (view a).dimension → (c : List ℕ) → length c ≡ 8705 → narrow_step (unfolded_after d mask) c ≡ done a 0 [] []
  -- Whatever calls are made on it before, where setting its fold mask to 0 is accepted it goes back.
  pub goes_back : (calls : List Call) → Accepted 18 (table_after 18 d calls) (folding 0) → (c : List ℕ) → length c ≡ 8705
      → (narrow_step (table_after 18 d (calls ++ folding 0 ∷ [])) c).result.number ≡ 0
