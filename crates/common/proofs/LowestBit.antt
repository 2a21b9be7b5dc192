-- The zeros below the lowest bit of a number are the place of that bit; and the first bit after a place, round to it: the lowest one above, or else the lowest.
-- At every width: nothing is computed over numbers.
-- Assumes nothing.
use mathlib.Core.Path.{◌≡◌, refl, ap, sym, ◌∙◌}
use mathlib.Core.Logic.{◌≢◌, ⊎_elim}
use mathlib.Core.Bool.{true, false}
use Prim.Native.Nat.{ℕ, zero, suc, ◌+◌, ◌-◌, ◌/◌, ◌%◌, ◌^◌, ◌≤◌, ◌<◌}
use native.Mathlib.Omega.{arith}
use native.Mathlib.Nat.{div-one, div-eq_of_lt, lt_of_lt_of_le, pow-succ'}
use lib.Dec.{eqb}
use lib.Pow.{pow_mono, shr-shr, shr_le}
use lib.Count.{count_trailing_zeros, under}
use Rattle.common.specs.FirstAfter.{bit_set, FirstAfter, above, round}
use Rattle.common.proofs.Tests.{below_or, clash}

-- the bits of what is left of a number behind its first k bits, and of its half
pub bit_after : (n k j : ℕ) → bit_set (n / 2 ^ k) j ≡ bit_set n (k + j)
bit_after n k j = rw (shr-shr n k j)

bit_half : (n j : ℕ) → bit_set n (suc j) ≡ bit_set (n / 2) j
bit_half n j = let one : 1 + j ≡ suc j = omega arith in sym (rw one at (bit_after n 1 j))

-- a number below 2 ^ k has no bit at k or above
pub no_bit_at : (k n j : ℕ) → n < 2 ^ k → k ≤ j → bit_set n j ≡ false
no_bit_at k n j h l = ap (λ m. eqb (m % 2) 1) (div-eq_of_lt (lt_of_lt_of_le h (pow_mono l)))

-- the zeros below the lowest bit: a bit stands there, and none lower
pub lowest_set : (k n : ℕ) → n ≢ 0 → n < 2 ^ k → bit_set n (count_trailing_zeros k n) ≡ true
unfolding count_trailing_zeros
lowest_set zero n z h = absurd (z (omega arith))
lowest_set (suc k) n z h = go (n % 2) refl (λ y. lowest_set k (n / 2) y (omega (arith, pow-succ' 2 k)))
  where
    go : (d : ℕ) → n % 2 ≡ d → (n / 2 ≢ 0 → bit_set (n / 2) (count_trailing_zeros k (n / 2)) ≡ true) → bit_set n (under d (count_trailing_zeros k (n / 2))) ≡ true
    go zero e more = bit_half n (count_trailing_zeros k (n / 2)) ∙ more (λ y. z (omega arith))
    go (suc zero) e more = rw (div-one n, e)
    go (suc (suc d)) e more = absurd (omega arith)

pub lowest_least : (k n j : ℕ) → bit_set n j ≡ true → count_trailing_zeros k n ≤ j
unfolding count_trailing_zeros
lowest_least zero n j e = omega arith
lowest_least (suc k) n j e = go (n % 2) refl j e (lowest_least k (n / 2))
  where
    even : n % 2 ≡ 0 → bit_set n 0 ≡ false
    even e = rw (div-one n, e)

    go : (d : ℕ) → n % 2 ≡ d → (j : ℕ) → bit_set n j ≡ true → ((i : ℕ) → bit_set (n / 2) i ≡ true → count_trailing_zeros k (n / 2) ≤ i) → under d (count_trailing_zeros k (n / 2)) ≤ j
    go zero e zero f more = absurd (clash f (even e))
    go zero e (suc j) f more = omega (arith, more j (sym (bit_half n j) ∙ f))
    go (suc d) e j f more = omega arith

-- The first bit after place a, round to it, as the code finds it in k bits.
module _ (k n a : ℕ) (room : n < 2 ^ k) where
  -- a bit above the place is one of what is left behind it
  left_after : (j : ℕ) → a < j → bit_set n j ≡ true → bit_set (n / 2 ^ (a + 1)) (j - (a + 1)) ≡ true
  left_after j l e = let back : a + 1 + (j - (a + 1)) ≡ j = omega arith in bit_after n (a + 1) (j - (a + 1)) ∙ ap (bit_set n) back ∙ e

  module _ (some : n / 2 ^ (a + 1) ≢ 0) where
    pub above_set : bit_set n (count_trailing_zeros k (n / 2 ^ (a + 1)) + (a + 1)) ≡ true
    above_set =
        let t = count_trailing_zeros k (n / 2 ^ (a + 1)) in
        let other : t + (a + 1) ≡ a + 1 + t = omega arith in
        ap (bit_set n) other ∙ sym (bit_after n (a + 1) t) ∙ lowest_set k (n / 2 ^ (a + 1)) some (omega (arith, shr_le n (a + 1), room))

    pub above_least : (j : ℕ) → a < j → bit_set n j ≡ true → count_trailing_zeros k (n / 2 ^ (a + 1)) + (a + 1) ≤ j
    above_least j l e = omega (arith, lowest_least k (n / 2 ^ (a + 1)) (j - (a + 1)) (left_after j l e))

  pub none_above : n / 2 ^ (a + 1) ≡ 0 → (j : ℕ) → bit_set n j ≡ true → j ≤ a
  none_above z j e =
      ⊎_elim (λ l. omega arith) (λ l. absurd (clash (rw z at (left_after j (omega arith) e)) (no_bit_at 0 0 (j - (a + 1)) (omega arith) (omega arith)))) (below_or (a + 1) j)

  -- So it is the first one after the place.
  pub found_above : n / 2 ^ (a + 1) ≢ 0 → FirstAfter n a (count_trailing_zeros k (n / 2 ^ (a + 1)) + (a + 1))
  found_above some = above (above_set some) (omega arith) (above_least some)

  pub found_round : n ≢ 0 → n / 2 ^ (a + 1) ≡ 0 → FirstAfter n a (count_trailing_zeros k n)
  found_round some none = round (lowest_set k n some room) (none_above none) (lowest_least k n)
