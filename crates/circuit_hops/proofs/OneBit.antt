-- A vector of ports whose bits are given by a test: where one port passes alone, it is the bit of that port.
-- Assumes nothing.
use mathlib.Core.Path.{◌≡◌, refl, ap, sym, ◌∙◌}
use mathlib.Core.Logic.{◌⊎◌, inl, inr, ⊎_elim, ◌≢◌}
use mathlib.Core.Bool.{Bool, true, false, not, ◌&&◌, beq}
use Prim.Native.Nat.{ℕ, zero, suc, ◌/◌, ◌%◌, ◌^◌, ◌≤◌, ◌<◌}
use native.Mathlib.Omega.{arith}
use native.Mathlib.Nat.{pow-succ'}
use lib.Bits.{bit_xor, bit_and}
use lib.Count.{ones, ones_step, ones-le}
use lib.Dec.{eqb, leb, lit<}
use borrow.Author.Tests.{leb-true, le-leb}
use Rattle.std.proofs.lemmas.Nat.{zero_from_ones}
use Rattle.common.specs.Decides.{Decides}
use Rattle.common.proofs.Every.{decide}
use Rattle.common.proofs.Tests.{same?, below_or, clash, is_false}
use Rattle.cube.specs.Bits.{bit_at, has}
use Rattle.cube.proofs.Bits.{two_bits, bit_lt, bit_xor_lem, bit_power, bit_power_other, has_and, has_bit, has_no_bit, high_has, no_bit_above, no_ports, same_bits}
use Rattle.circuit_hops.specs.CountHops.{OnePort}

-- the bit of a port has that port alone
pub bit_has : (p : ℕ) → has (2 ^ p) p ≡ true
unfolding has
bit_has p = rw (bit_power p)

pub bit_only : (p q : ℕ) → has (2 ^ p) q ≡ true → q ≡ p
unfolding has
bit_only p q t = ⊎_elim (λ e. e) (λ h. absurd (clash t (rw (bit_power_other p q h)))) (same? q p)

-- a bit of a number below a power of two is one of so many
pub has_below : (w x p : ℕ) → x < 2 ^ w → has x p ≡ true → p < w
has_below w x p h t = ⊎_elim (λ l. l) (λ l. absurd (clash t (high_has w x p h l))) (below_or w p)

module _ (w : ℕ) {x : ℕ} {f : ℕ → Bool} (small : x < 2 ^ w) (bits : (p : ℕ) → p < w → has x p ≡ f p) where
  pub sole_bit : {p : ℕ} → p < w → f p ≡ true → ((q : ℕ) → q < w → f q ≡ true → q ≡ p) → x ≡ 2 ^ p
  sole_bit {p} l t only = same_bits w x (2 ^ p) small (no_bit_above w (2 ^ p) (λ q h. is_false (has (2 ^ p) q) (λ y. omega (arith, bit_only p q y)))) same
    where
      same : (q : ℕ) → q < w → bit_at x q ≡ bit_at (2 ^ p) q
      same q k = ⊎_elim (λ e. rw e (has_bit x p (bits p l ∙ t) ∙ sym (bit_power p)))
          (λ h. has_no_bit x q (is_false (has x q) (λ y. h (only q k (sym (bits q k) ∙ y)))) ∙ sym (bit_power_other p q h)) (same? q p)

  -- a vector that is not empty has some port
  pub some_bit : x ≢ 0 → (p : ℕ) × (p < w) × (f p ≡ true)
  some_bit h = ⊎_elim (λ r. (r.0, r.1, sym (bits r.0 r.1) ∙ r.2)) (λ r. absurd (h (no_ports w x small r))) (decide w (has x))

-- a vector of one port at most
few : (w x : ℕ) → x < 2 ^ w → ones x ≤ 1 → x ≢ 0 → (p : ℕ) × (x ≡ 2 ^ p)
few zero x small one h = absurd (h (omega arith))
few (suc w) x small one h = even_or_odd (few w (x / 2) (omega (arith, small, pow-succ' 2 w))) (below_or 1 (x % 2))
  where
    even_or_odd : (ones (x / 2) ≤ 1 → x / 2 ≢ 0 → (p : ℕ) × (x / 2 ≡ 2 ^ p)) → (x % 2 < 1) ⊎ (1 ≤ x % 2) → (p : ℕ) × (x ≡ 2 ^ p)
    even_or_odd half (inl e) =
        let r = half (omega (arith, one, ones_step x)) (λ z. h (omega arith)) in
        (suc r.0, omega (arith, r.1, pow-succ' 2 r.0))
    even_or_odd half (inr e) = (0, let z = zero_from_ones (x / 2) (omega (arith, one, ones_step x)) in omega arith)

one_is_few : (p : ℕ) → ones (2 ^ p) ≤ 1
one_is_few zero = omega (arith, ones-le 1 (2 ^ 0) (lit< tt))
one_is_few (suc p) =
    let half : 2 ^ suc p / 2 ≡ 2 ^ p = omega (arith, pow-succ' 2 p) in
    omega (arith, pow-succ' 2 p, ones_step (2 ^ suc p), ap ones half, one_is_few p)

pub few_ones : (x : ℕ) → x < 2 ^ 32 → Decides (x ≢ 0 → OnePort x) (leb (ones x) 1)
unfolding OnePort
few_ones x small = record { holds = λ t h. few 32 x small (leb-true (ones x) 1 t) h; fails = λ e k. ⊎_elim (λ z. clash (le-leb (ones x) 1 (none_is_few z)) e) (λ h. let r = k h in clash (le-leb (ones x) 1 (rw r.1 (one_is_few r.0))) e) (same? x 0) }
  where
    none_is_few : x ≡ 0 → ones x ≤ 1
    none_is_few z = rw z (omega (arith, ones-le 0 0 (lit< tt)))

-- what is left of a vector without those of its ports that another has
has_xor : (n m p : ℕ) → has (bit_xor n m) p ≡ not (beq (has n p) (has m p))
unfolding has
has_xor n m p = rw (bit_xor_lem n m p) (two_bits (λ x y. eqb (bit_xor x y) 1 ≡ not (beq (eqb x 1) (eqb y 1))) refl refl refl refl (bit_at n p) (bit_at m p) (bit_lt n p) (bit_lt m p))

pub has_rest : (n m p : ℕ) → has (bit_xor n (bit_and n m)) p ≡ (has n p && not (has m p))
has_rest n m p = has_xor n (bit_and n m) p ∙ ap (λ x. not (beq (has n p) x)) (has_and n m p) ∙ cases (has n p) (has m p)
  where
    cases : (x y : Bool) → not (beq x (x && y)) ≡ (x && not y)
    cases true true = refl
    cases true false = refl
    cases false true = refl
    cases false false = refl
