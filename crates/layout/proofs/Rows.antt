-- A row of entries: which of them are a circuit's, as loops find them, and whether a mask has every one that is not zero.
-- Assumes nothing.
use mathlib.Core.Path.{◌≡◌, refl, ap, ap₂, sym, ◌∙◌, subst}
use mathlib.Core.Logic.{◌⊎◌, inl, inr, ⊎_elim, ◌≢◌}
use mathlib.Core.Bool.{true, false, ◌||◌, ◌&&◌}
use mathlib.Core.List.{List}
use Prim.Native.Nat.{ℕ, ◌+◌, ◌-◌, ◌*◌, ◌^◌, ◌%◌, ◌<◌}
use native.Mathlib.Omega.{arith}
use native.Mathlib.Nat.{lt_of_lt_of_le, lt_of_le_of_lt}
use lib.Dec.{eqb, lit<}
use lib.Bits.{bit_xor, bit_or, bit_and, and_le_r}
use lib.Pow.{pow_mono}
use borrow.Author.Count.{below_more}
use borrow.Author.Tests.{eqb-true, eqb-false, eq-eqb, ne_eqb}
use Rattle.common.specs.Decides.{Decides}
use Rattle.common.proofs.Every.{at}
use Rattle.common.proofs.Tests.{same?, clash, both, either, or_left, or_right}
use Rattle.cube.specs.Bits.{has, flip}
use Rattle.cube.proofs.Bits.{has_or, has_and, has_bit, has_no_bit, same_bits, high_has, bit_flipped, bit_kept, flip_xor, flip_inside}
use Rattle.cube.proofs.Ports.{port_bit}
use Rattle.layout.specs.Layout.{word_at}
use Rattle.layout.specs.LayoutContracts.{RowVector}
use Rattle.layout.specs.Resources.{Width}
use Rattle.layout.proofs.Entries.{by_width}

-- what was found of the first k entries
pub record Found (b : List ℕ) (c k vector : ℕ) : Type 0 where
  pub below : vector < 2 ^ k
  pub bits : (j : ℕ) → j < k → has vector j ≡ eqb (word_at b (2 * j)) c

module _ (b : List ℕ) (c : ℕ) where
  pub found_none : Found b c 0 0
  found_none = record { below = lit< tt; bits = λ j h. absurd (omega arith) }

  module _ (k vector x : ℕ) (f : Found b c k vector) (h : k < 18) (e : x ≡ word_at b (2 * k)) where
    wider : vector < 2 ^ (k + 1)
    wider = lt_of_lt_of_le f.below (pow_mono {i = k} {j = k + 1} (omega arith))

    clear : has vector k ≡ false
    clear = high_has k vector k f.below (omega arith)

    pub found_no : x ≢ c → Found b c (k + 1) vector
    found_no z = record { below = wider; bits = below_more (λ (j : ℕ). has vector j ≡ eqb (word_at b (2 * j)) c) k f.bits (clear ∙ sym (ne_eqb _ c (λ y. z (e ∙ y)))) }

    pub found_yes : x ≡ c → Found b c (k + 1) (bit_xor vector (1 * 2 ^ k % 4294967296))
    found_yes z = rw (port_bit 32 k (omega arith), flip_xor vector k) (record {
      below = flip_inside (k + 1) vector k wider (omega arith);
      bits = below_more (λ (j : ℕ). has (flip vector k) j ≡ eqb (word_at b (2 * j)) c) k (λ j l. kept j l ∙ f.bits j l) (now ∙ sym (eq-eqb _ c (sym e ∙ z)));
    })
      where
        kept : (j : ℕ) → j < k → has (flip vector k) j ≡ has vector j
        kept j l = unfold has in ap (λ x. eqb x 1) (bit_kept vector k j (λ y. omega arith))

        now : has (flip vector k) k ≡ true
        now = unfold has in rw (bit_flipped vector k, has_no_bit vector k clear)

  pub found_all : {w : ℕ} (k vector : ℕ) → k ≡ w → Found b c k vector → RowVector w b c vector
  found_all k vector e f = let g = subst (λ (x : ℕ). Found b c x vector) e f in record { small = g.below; bits = g.bits }

-- all bits of a row
module _ {w : ℕ} (width : Width w) where
  every_bit : (k : ℕ) → k < w → has (2 ^ w - 1) k ≡ true
  every_bit = by_width (λ w. (k : ℕ) → k < w → has (2 ^ w - 1) k ≡ true) w width (at 8 (has 255) (unfold has in refl)) (at 18 (has 262143) (unfold has in refl))

  all_small : 2 ^ w - 1 < 2 ^ w
  all_small = by_width (λ w. 2 ^ w - 1 < 2 ^ w) w width (lit< tt) (lit< tt)

-- a mask that has every entry of the row that is not zero
module _ (w : ℕ) (width : Width w) (b : List ℕ) (free mask : ℕ) (r : RowVector w b 0 free) where
  MaskHasHeld : Type 0
  MaskHasHeld = (k : ℕ) → k < w → word_at b (2 * k) ≢ 0 → has mask k ≡ true

  mask_has_held : MaskHasHeld → bit_and (bit_or free mask) (2 ^ w - 1) ≡ 2 ^ w - 1
  unfolding MaskHasHeld
  mask_has_held h =
      same_bits w (bit_and (bit_or free mask) (2 ^ w - 1)) (2 ^ w - 1) (lt_of_le_of_lt (and_le_r (bit_or free mask) (2 ^ w - 1)) (all_small width)) (all_small width)
      (λ k l. has_bit _ k (has_and (bit_or free mask) (2 ^ w - 1) k ∙ ap₂ ◌&&◌ (has_or free mask k ∙ there k l (same? (word_at b (2 * k)) 0)) (every_bit width k l)) ∙ sym (has_bit (2 ^ w - 1) k (every_bit width k l)))
    where
      there : (k : ℕ) → k < w → (word_at b (2 * k) ≡ 0) ⊎ (word_at b (2 * k) ≢ 0) → (has free k || has mask k) ≡ true
      there k l (inl z) = or_left _ (r.bits k l ∙ eq-eqb _ 0 z)
      there k l (inr z) = or_right (has free k) (h k l z)

  all_marked : bit_and (bit_or free mask) (2 ^ w - 1) ≡ 2 ^ w - 1 → MaskHasHeld
  unfolding MaskHasHeld
  all_marked e k l z =
      ⊎_elim (λ f. absurd (clash f (r.bits k l ∙ ne_eqb _ 0 z))) (λ f. f)
      (either (has free k) (has mask k) (sym (has_or free mask k) ∙ (both (has (bit_or free mask) k) (has (2 ^ w - 1) k) (sym (has_and (bit_or free mask) (2 ^ w - 1) k) ∙ ap (λ x. has x k) e ∙ every_bit width k l)).0))

  pub mask_decides : (x : ℕ) → x ≡ 2 ^ w - 1 → Decides ((k : ℕ) → k < w → word_at b (2 * k) ≢ 0 → has mask k ≡ true) (eqb (bit_and (bit_or free mask) x) x)
  unfolding MaskHasHeld
  mask_decides x e = rw e (record { holds = λ e. all_marked (eqb-true _ (2 ^ w - 1) e); fails = λ e h. eqb-false _ (2 ^ w - 1) e (mask_has_held h) })

-- the number of all bits, as the code makes it
pub all_bits : {w : ℕ} (k : ℕ) → Width w → k ≡ w → 1 * 2 ^ k % 4294967296 - 1 ≡ 2 ^ w - 1
all_bits k (inl f) e = rw (e, f) refl
all_bits k (inr f) e = rw (e, f) refl
