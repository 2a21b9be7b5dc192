-- Bits by arithmetic: of a power of two, of `^` of two numbers, and of a number with one bit changed. All hold at every width.
-- Assumes nothing.
use mathlib.Core.Path.{◌≡◌, refl, ap, sym, ◌∙◌}
use mathlib.Core.Logic.{◌≢◌, ◌⊎◌, inl, inr, ⊎_elim}
use mathlib.Core.Bool.{Bool, true, false, cond, not, ◌&&◌, ◌||◌, beq}
use Prim.Native.Nat.{ℕ, zero, suc, ◌+◌, ◌-◌, ◌*◌, ◌/◌, ◌%◌, ◌^◌, ◌≤◌, ◌<◌}
use native.Mathlib.Omega.{arith}
use native.Mathlib.Nat.{div-eq_of_lt, div_self, lt_of_lt_of_le, pow-succ', div-div-eq-div-mul, div-one}
use lib.Arith.{lt_of_le-ne}
use lib.Dec.{eqb, ltb}
use lib.Pow.{pow_pos, pow_mono, pow-lt, pow-add, shl-shr}
use lib.Bits.{bit_xor, bit_and, bit_or, or_shr, or_mod, and_high, and_shr, and_mod, xor_add_and, xor_shr, xor_mod, xor_lt, xor_zero_r, and_le_l}
use borrow.Author.Tests.{ltb-true, ltb-false, eqb-true, eqb-false, ne_eqb}
use Rattle.common.proofs.Every.{decide}
use Rattle.common.proofs.Tests.{below_or}
use Rattle.cube.specs.Bits.{bit_at, has, flip, with_bit}

pub bit_lt : (n p : ℕ) → bit_at n p < 2
unfolding bit_at
bit_lt n p = omega arith

-- what holds of 0 and of 1 holds of a bit, and so for two bits
pub one_bit : (P : ℕ → Type 0) → P 0 → P 1 → (x : ℕ) → x < 2 → P x
one_bit P none one zero h = none
one_bit P none one (suc zero) h = one
one_bit P none one (suc (suc x)) h = absurd (omega arith)

pub two_bits : (P : ℕ → ℕ → Type 0) → P 0 0 → P 0 1 → P 1 0 → P 1 1 → (x y : ℕ) → x < 2 → y < 2 → P x y
two_bits P none second first both x y h l = one_bit (λ x. P x y) (one_bit (P 0) none second y l) (one_bit (P 1) first both y l) x h

-- no bit stands at D or above in a number below 2 ^ D
pub bit_high : (D n p : ℕ) → n < 2 ^ D → D ≤ p → bit_at n p ≡ 0
unfolding bit_at
bit_high D n p h l = ap (◌% 2) (div-eq_of_lt (lt_of_lt_of_le h (pow_mono l)))

-- the bits of a power of two
pub bit_power : (p : ℕ) → bit_at (2 ^ p) p ≡ 1
unfolding bit_at
bit_power p = ap (◌% 2) (div_self (pow_pos p))

pub bit_power_other : (p q : ℕ) → q ≢ p → bit_at (2 ^ p) q ≡ 0
unfolding bit_at
bit_power_other p q h = go (ltb q p) refl
  where
    go : (b : Bool) → ltb q p ≡ b → 2 ^ p / 2 ^ q % 2 ≡ 0
    go true e =
        let l = ltb-true q p e in
        let d : ℕ = p - suc q in
        let split : p ≡ suc d + q = omega arith in
        rw (split, pow-add 2 (suc d) q, shl-shr (2 ^ suc d) q, pow-succ' 2 d) (omega arith)
    go false e = ap (◌% 2) (div-eq_of_lt (pow-lt (lt_of_le-ne (ltb-false q p e) (λ i. h (sym i)))))

-- the bits of `^`
pub bit_xor_lem : (n m p : ℕ) → bit_at (bit_xor n m) p ≡ bit_xor (bit_at n p) (bit_at m p)
unfolding bit_at
bit_xor_lem n m p = rw (xor_shr n m p) (xor_mod (n / 2 ^ p) (m / 2 ^ p) 1)

pub has_xor : (n m p : ℕ) → has (bit_xor n m) p ≡ not (beq (has n p) (has m p))
unfolding has
has_xor n m p = rw (bit_xor_lem n m p) (two_bits (λ x y. eqb (bit_xor x y) 1 ≡ not (beq (eqb x 1) (eqb y 1))) refl refl refl refl (bit_at n p) (bit_at m p) (bit_lt n p) (bit_lt m p))

-- the bits of `&`
bit_and_lem : (n m p : ℕ) → bit_at (bit_and n m) p ≡ bit_and (bit_at n p) (bit_at m p)
unfolding bit_at
bit_and_lem n m p = rw (and_shr n m p) (and_mod (n / 2 ^ p) (m / 2 ^ p) 1)

pub has_and : (n m p : ℕ) → has (bit_and n m) p ≡ (has n p && has m p)
unfolding has
has_and n m p = rw (bit_and_lem n m p) (two_bits (λ x y. eqb (bit_and x y) 1 ≡ (eqb x 1 && eqb y 1)) refl refl refl refl (bit_at n p) (bit_at m p) (bit_lt n p) (bit_lt m p))

-- the bits of `|`
bit_or_lem : (n m p : ℕ) → bit_at (bit_or n m) p ≡ bit_or (bit_at n p) (bit_at m p)
unfolding bit_at
bit_or_lem n m p = rw (or_shr n m p) (or_mod (n / 2 ^ p) (m / 2 ^ p) 1)

pub has_or : (n m p : ℕ) → has (bit_or n m) p ≡ (has n p || has m p)
unfolding has
has_or n m p = rw (bit_or_lem n m p) (two_bits (λ x y. eqb (bit_or x y) 1 ≡ (eqb x 1 || eqb y 1)) refl refl refl refl (bit_at n p) (bit_at m p) (bit_lt n p) (bit_lt m p))

-- to change a bit is `^` with a power of two
and_power : (n p : ℕ) → bit_and n (2 ^ p) ≡ bit_at n p * 2 ^ p
unfolding bit_at
and_power n p =
    let one : 2 ^ (1 + p) - 2 ^ p ≡ 2 ^ p = rw (pow-add 2 1 p) (omega arith) in
    rw one at (and_high n 1 p)

pub flip_xor : (n p : ℕ) → bit_xor n (2 ^ p) ≡ flip n p
unfolding flip has
flip_xor n p = go (eqb (bit_at n p) 1) refl
  where
    go : (b : Bool) → eqb (bit_at n p) 1 ≡ b → bit_xor n (2 ^ p) ≡ cond b (n - 2 ^ p) (n + 2 ^ p)
    go true e = omega (arith, xor_add_and n (2 ^ p), and_power n p ∙ ap (◌* 2 ^ p) (eqb-true (bit_at n p) 1 e))
    go false e =
        let z : bit_at n p ≡ 0 = omega (arith, bit_lt n p, eqb-false (bit_at n p) 1 e) in
        omega (arith, xor_add_and n (2 ^ p), and_power n p ∙ ap (◌* 2 ^ p) z)

-- the bits of a number with bit p changed: the one changed, and every other
pub bit_flipped : (n p : ℕ) → bit_at (flip n p) p ≡ 1 - bit_at n p
bit_flipped n p = rw (← flip_xor n p, bit_xor_lem n (2 ^ p) p, bit_power p) (one_bit (λ x. bit_xor x 1 ≡ 1 - x) refl refl (bit_at n p) (bit_lt n p))

pub bit_kept : (n p q : ℕ) → q ≢ p → bit_at (flip n p) q ≡ bit_at n q
bit_kept n p q h = rw (← flip_xor n p, bit_xor_lem n (2 ^ p) q, bit_power_other p q h) (xor_zero_r (bit_at n q))

-- a number with bit p has room to lose it, and loses it
pub has_bit : (n p : ℕ) → has n p ≡ true → bit_at n p ≡ 1
unfolding has
has_bit n p e = eqb-true (bit_at n p) 1 e

pub has_no_bit : (n p : ℕ) → has n p ≡ false → bit_at n p ≡ 0
unfolding has
has_no_bit n p e = omega (arith, bit_lt n p, eqb-false (bit_at n p) 1 e)

pub has_room : (n p : ℕ) → has n p ≡ true → 2 ^ p ≤ n
has_room n p e = omega (arith, and_le_l n (2 ^ p), and_power n p ∙ ap (◌* 2 ^ p) (has_bit n p e))

pub flip_drops : (n p : ℕ) → has n p ≡ true → flip n p + 2 ^ p ≡ n
unfolding flip
flip_drops n p e = rw e (omega (arith, has_room n p e))

-- changed twice, a bit is as it was; and inside 2 ^ D a number stays there
pub flip_back : (n p : ℕ) → flip (flip n p) p ≡ n
flip_back n p = go (has n p) refl
  where
    set : (m : ℕ) → bit_at m p ≡ 1 → flip m p ≡ m - 2 ^ p
    set m e = unfold flip has in rw e

    clear : (m : ℕ) → bit_at m p ≡ 0 → flip m p ≡ m + 2 ^ p
    clear m e = unfold flip has in rw e

    go : (b : Bool) → has n p ≡ b → flip (flip n p) p ≡ n
    go true e =
        let one = has_bit n p e in
        clear (flip n p) (bit_flipped n p ∙ ap (1 -◌) one) ∙ flip_drops n p e
    go false e =
        let zero' = has_no_bit n p e in
        set (flip n p) (bit_flipped n p ∙ ap (1 -◌) zero') ∙ rw (clear n zero') (omega arith)

pub flip_inside : (D n p : ℕ) → n < 2 ^ D → p < D → flip n p < 2 ^ D
flip_inside D n p h l = rw (← flip_xor n p) (xor_lt D n (2 ^ p) h (pow-lt l))

-- a bit set or cleared is as wanted, and every other as it was
pub with_bit_same : (n p : ℕ) (on : Bool) → has (with_bit n p on) p ≡ on
unfolding with_bit
with_bit_same n p on = go (has n p) on refl
  where
    flipped : (b : Bool) → has n p ≡ b → has (flip n p) p ≡ not b
    flipped true e = unfold has in rw (bit_flipped n p, has_bit n p e)
    flipped false e = unfold has in rw (bit_flipped n p, has_no_bit n p e)

    go : (b on : Bool) → has n p ≡ b → has (cond (beq b on) n (flip n p)) p ≡ on
    go true true e = e
    go true false e = flipped true e
    go false true e = flipped false e
    go false false e = e

pub with_bit_other : (n p : ℕ) (on : Bool) (q : ℕ) → q ≢ p → has (with_bit n p on) q ≡ has n q
unfolding with_bit
with_bit_other n p on q h = go (beq (has n p) on)
  where
    go : (b : Bool) → has (cond b n (flip n p)) q ≡ has n q
    go true = refl
    go false = unfold has in ap (λ x. eqb x 1) (bit_kept n p q h)

pub with_bit_inside : (D n p : ℕ) (on : Bool) → n < 2 ^ D → p < D → with_bit n p on < 2 ^ D
unfolding with_bit
with_bit_inside D n p on h l = go (beq (has n p) on)
  where
    go : (b : Bool) → cond b n (flip n p) < 2 ^ D
    go true = h
    go false = flip_inside D n p h l

-- the lowest bit is the remainder by two, and the others are those of the half
bit_zero : (n : ℕ) → bit_at n 0 ≡ n % 2
unfolding bit_at
bit_zero n = rw (div-one n)

bit_half : (n p : ℕ) → bit_at n (suc p) ≡ bit_at (n / 2) p
unfolding bit_at
bit_half n p = rw (pow-succ' 2 p, div-div-eq-div-mul n 2 (2 ^ p))

-- so two numbers below 2 ^ w with the same w bits are the same
pub same_bits : (w n m : ℕ) → n < 2 ^ w → m < 2 ^ w → ((p : ℕ) → p < w → bit_at n p ≡ bit_at m p) → n ≡ m
same_bits zero n m h l e = omega arith
same_bits (suc w) n m h l e =
    let halves : n / 2 ≡ m / 2 = same_bits w (n / 2) (m / 2) (omega (arith, pow-succ' 2 w)) (omega (arith, pow-succ' 2 w)) (λ p k. rw (bit_half n p, bit_half m p) at (e (suc p) (omega arith))) in
    let low : n % 2 ≡ m % 2 = rw (bit_zero n, bit_zero m) at (e 0 (omega arith)) in
    omega arith

-- a number below 2 ^ D has no bit at D or above, zero has none, and a number below 2 ^ w that has none of w bits is zero
pub high_has : (D n p : ℕ) → n < 2 ^ D → D ≤ p → has n p ≡ false
unfolding has
high_has D n p h l = ne_eqb (bit_at n p) 1 (λ e. omega (arith, bit_high D n p h l))

pub zero_has : (p : ℕ) → has 0 p ≡ false
zero_has p = high_has 0 0 p (pow_pos 0) (omega arith)

pub no_ports : (w n : ℕ) → n < 2 ^ w → ((p : ℕ) → p < w → has n p ≡ false) → n ≡ 0
no_ports w n h z =
    same_bits w n 0 h (pow_pos w) (λ p l. has_no_bit n p (z p l) ∙ sym (bit_high 0 0 p (pow_pos 0) (omega arith)))

-- and a number that has no bit at D or above is below 2 ^ D
below_power : (n : ℕ) → n < 2 ^ n
below_power zero = pow_pos 0
below_power (suc n) = omega (arith, pow-succ' 2 n, below_power n)

pub no_bit_above : (D n : ℕ) → ((p : ℕ) → D ≤ p → has n p ≡ false) → n < 2 ^ D
unfolding has
no_bit_above zero n h = omega (arith, no_ports n n (below_power n) (λ p l. h p (omega arith)), pow_pos 0)
no_bit_above (suc D) n h =
    omega (arith, pow-succ' 2 D, no_bit_above D (n / 2) (λ p l. ap (λ x. eqb x 1) (sym (bit_half n p)) ∙ h (suc p) (omega arith)))

-- and one that is not below 2 ^ D has a bit there
pub has_bit_above : (D n : ℕ) → 2 ^ D ≤ n → (p : ℕ) × (D ≤ p) × (has n p ≡ true)
has_bit_above D n h = go (decide n (λ k. has n (D + k)))
  where
    go : ((k : ℕ) × (k < n) × (has n (D + k) ≡ true)) ⊎ ((k : ℕ) → k < n → has n (D + k) ≡ false) → (p : ℕ) × (D ≤ p) × (has n p ≡ true)
    go (inl s) = (D + s.0, omega arith, s.2)
    go (inr z) = absurd (omega (arith, no_bit_above D n none))
      where
        none : (p : ℕ) → D ≤ p → has n p ≡ false
        none p l =
            let same : D + (p - D) ≡ p = omega arith in
            ⊎_elim (λ i. rw same at (z (p - D) (omega arith))) (λ i. high_has n n p (below_power n) i) (below_or n p)
