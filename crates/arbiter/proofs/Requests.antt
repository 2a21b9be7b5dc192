-- Who asks, bit by bit; and the first bit after the record is the requester that Chosen chooses.
-- Assumes nothing.
use mathlib.Core.Path.{◌≡◌, sym, ◌∙◌}
use mathlib.Core.Logic.{⊎_elim}
use mathlib.Core.Bool.{true, false}
use Prim.Native.Nat.{ℕ, zero, suc, ◌+◌, ◌/◌, ◌^◌, ◌≤◌, ◌<◌}
use native.Mathlib.Omega.{arith}
use native.Mathlib.Nat.{le-div_iff_mul-le, pow-succ'}
use lib.Pow.{pow_pos}
use lib.Count.{count_trailing_zeros}
use Rattle.common.specs.FirstAfter.{FirstAfter, above, round}
use Rattle.common.proofs.Tests.{below_or, clash}
use Rattle.common.proofs.LowestBit.{bit_after, no_bit_at, lowest_set}
use Rattle.arbiter.specs.Arbiter.{is_asking}
use Rattle.arbiter.specs.Chosen.{Chosen}
use Rattle.arbiter.proofs.Order.{steps_above, steps_round}

-- nobody at k or above asks in a number below 2 ^ k, so nobody in 0
pub asks_high : (k q j : ℕ) → q < 2 ^ k → k ≤ j → is_asking q j ≡ false
unfolding is_asking
asks_high = no_bit_at

pub asks_zero : (j : ℕ) → is_asking 0 j ≡ false
asks_zero j = asks_high 0 0 j (omega arith) (omega arith)

-- where somebody asks the number is not 0
pub asks_some : (q r : ℕ) → is_asking q r ≡ true → 0 < q
asks_some q r e = ⊎_elim (λ l. l) (λ l. absurd (let z : q ≡ 0 = omega arith in clash (rw z at e) (asks_zero r))) (below_or q 0)

-- whoever asks in a number below 2 ^ k is below k
pub asks_below : (k q j : ℕ) → q < 2 ^ k → is_asking q j ≡ true → j < k
asks_below k q j h e = ⊎_elim (λ l. l) (λ l. absurd (clash e (asks_high k q j h l))) (below_or k j)

-- a number of 2 ^ k or more has a request at k or above
power_above : (n : ℕ) → n < 2 ^ n
power_above zero = omega arith
power_above (suc n) = omega (arith, power_above n, pow-succ' 2 n)

pub high_asks : (k q : ℕ) → 2 ^ k ≤ q → (r : ℕ) × (k ≤ r) × (is_asking q r ≡ true)
high_asks k q h =
    let t : ℕ = count_trailing_zeros (q / 2 ^ k) (q / 2 ^ k) in
    let some : 1 ≤ q / 2 ^ k = (le-div_iff_mul-le (pow_pos k)).1 (omega arith) in
    (k + t, omega arith, unfold is_asking in sym (bit_after q k t) ∙ lowest_set (q / 2 ^ k) (q / 2 ^ k) (λ e. omega arith) (power_above (q / 2 ^ k)))

-- a number with no request is 0
pub none_asks : (q : ℕ) → ((r : ℕ) → is_asking q r ≡ false) → q ≡ 0
unfolding is_asking
none_asks q h = ⊎_elim (λ l. absurd (let a = lowest_set q q (λ e. omega arith) (power_above q) in clash a (h (count_trailing_zeros q q)))) (λ l. omega arith) (below_or q 0)

-- The first bit after the record is the choice of Chosen.
module _ (last q : ℕ) (stored : last < 26) (inside : q < 2 ^ 26) where
  pub found : {r : ℕ} → FirstAfter q last r → Chosen last q r
  unfolding is_asking
  found {r} (above on past least) = record {
    requester = asks_below 26 q r inside on;
    requested = on;
    nearest = λ j l e.
        let small = asks_below 26 q r inside on in
        let here = steps_above last r past in
        ⊎_elim (λ g. let there = steps_round last j (omega arith) in omega arith) (λ g. let there = steps_above last j (omega arith) in let after = least j (omega arith) e in omega arith) (below_or (last + 1) j);
  }
  found {r} (round on low least) = record {
    requester = asks_below 26 q r inside on;
    requested = on;
    nearest = λ j l e. omega (arith, steps_round last r (low r on), steps_round last j (low j e), least j e);
  }
