-- What a loop over the numbers below a bound finds of a test.
-- Assumes nothing.
use mathlib.Core.Path.{◌≡◌, sym}
use mathlib.Core.Bool.{Bool, true, false}
use mathlib.Core.Logic.{⊎_elim}
use Prim.Native.Nat.{ℕ, ◌+◌, ◌<◌}
use native.Mathlib.Omega.{arith}
use Rattle.common.specs.Lists.{any, from}
use Rattle.common.proofs.Tests.{same?, clash, is_false}
use Rattle.common.proofs.Lists.{any_some, some_any}
use Rattle.common.proofs.From.{below_from, from_below}

pub found : (f : ℕ → Bool) (n k : ℕ) → k < n → f k ≡ true → true ≡ any f (from 0 n)
found f n k h e = sym (some_any f (from 0 n) (below_from n k h) e)

pub none_found : (f : ℕ → Bool) (n : ℕ) → ((k : ℕ) → k < n → f k ≡ false) → false ≡ any f (from 0 n)
none_found f n h = sym (is_false (any f (from 0 n)) (λ t. let r = any_some f (from 0 n) t in clash r.2 (h r.0 (from_below n r.0 r.1))))

-- one number more that does not pass
pub one_more : (f : ℕ → Bool) (n : ℕ) → ((k : ℕ) → k < n → f k ≡ false) → f n ≡ false → (k : ℕ) → k < n + 1 → f k ≡ false
one_more f n h e k l = ⊎_elim (λ (z : k ≡ n). rw z e) (λ z. h k (omega arith)) (same? k n)
