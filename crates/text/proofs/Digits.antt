-- Laws of decimal digits.
-- Assumes nothing.
use mathlib.Core.Path.{◌≡◌, refl, ap, sym, ◌∙◌}
use mathlib.Core.Logic.{◌⊎◌, inl, inr, ⊎_elim}
use mathlib.Core.List.{[], ◌∷◌, ◌++◌}
use Prim.Native.Nat.{ℕ, zero, suc, ◌+◌, ◌/◌, ◌%◌, ◌^◌, ◌≤◌, ◌<◌}
use native.Mathlib.Nat.{one-le-pow}
use native.Mathlib.Omega.{arith}
use lib.ListN.{length, length-append}
use borrow.Author.Tests.{lt-ltb, le-ltb}
use Rattle.common.proofs.Tests.{below_or}
use Rattle.text.specs.Text.{digit, digits, decimal}

digits_short : (k n : ℕ) → n < 10 → digits k n ≡ digit n ∷ []
unfolding digits
digits_short zero n h = refl
digits_short (suc k) n h = rw (lt-ltb n 10 h)

digits_long : (k n : ℕ) → 10 ≤ n → digits (suc k) n ≡ digits k (n / 10) ++ (digit (n % 10) ∷ [])
unfolding digits
digits_long k n h = rw (le-ltb n 10 h)

-- any bound that is large enough gives the same digits
digits_enough : (k m n : ℕ) → n ≤ k → n ≤ m → digits k n ≡ digits m n
digits_enough zero m n h l = digits_short zero n (omega arith) ∙ sym (digits_short m n (omega arith))
digits_enough (suc k) zero n h l = digits_short (suc k) n (omega arith) ∙ sym (digits_short zero n (omega arith))
digits_enough (suc k) (suc m) n h l =
    ⊎_elim (λ s. digits_short (suc k) n s ∙ sym (digits_short (suc m) n s))
    (λ s. digits_long k n s ∙ ap (◌++ (digit (n % 10) ∷ [])) (digits_enough k m (n / 10) (omega arith) (omega arith)) ∙ sym (digits_long m n s)) (below_or 10 n)

-- a number below ten is one digit; another has the digits of its tenth, and one more
pub decimal_short : (n : ℕ) → n < 10 → decimal n ≡ digit n ∷ []
unfolding decimal
decimal_short n h = digits_short n n h

pub decimal_long : (n : ℕ) → 10 ≤ n → decimal n ≡ decimal (n / 10) ++ (digit (n % 10) ∷ [])
unfolding decimal
decimal_long zero h = absurd (omega arith)
decimal_long (suc k) h = digits_long k (suc k) h ∙ ap (◌++ (digit (suc k % 10) ∷ [])) (digits_enough k (suc k / 10) (suc k / 10) (omega arith) (omega arith))

-- how many digits a number has
pub long_length : (n : ℕ) → 10 ≤ n → length (decimal n) ≡ length (decimal (n / 10)) + 1
long_length n h = ap length (decimal_long n h) ∙ length-append (decimal (n / 10)) (digit (n % 10) ∷ [])

pub decimal_some : (n : ℕ) → 1 ≤ length (decimal n)
decimal_some n = ⊎_elim (λ s. omega (arith, ap length (decimal_short n s))) (λ l. omega (arith, long_length n l)) (below_or 10 n)

pub decimal_length : (k n : ℕ) → n < 10 ^ suc k → length (decimal n) ≤ suc k
decimal_length zero n h = rw (decimal_short n h) (omega arith)
decimal_length (suc k) n h = go (below_or 10 n) (decimal_length k (n / 10))
  where
    go : (n < 10) ⊎ (10 ≤ n) → (n / 10 < 10 ^ suc k → length (decimal (n / 10)) ≤ suc k) → length (decimal n) ≤ suc (suc k)
    go (inl s) ih = rw (decimal_short n s) (omega arith)
    go (inr l) ih = let p = ih (omega arith) in omega (arith, long_length n l)

pub decimal_least : (k n : ℕ) → 10 ^ k ≤ n → suc k ≤ length (decimal n)
decimal_least zero n h = decimal_some n
decimal_least (suc k) n h =
    let p = decimal_least k (n / 10) (omega arith) in
    omega (arith, long_length n (omega (arith, one-le-pow k 10 (omega arith))))

-- a number of so many digits, by the powers of ten that it lies between
pub digits_between : (k n : ℕ) → 10 ^ k ≤ n → n < 10 ^ suc k → suc k ≡ length (decimal n)
digits_between k n l h = omega (arith, decimal_least k n l, decimal_length k n h)
