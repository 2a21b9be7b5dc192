-- The part of a cube in which a send stays whose first hop is uphill (Promises 12).
-- Assumes nothing.
use Rattle.std.specs.Prelude.{◌≡◌, ◌⊎◌, true, ℕ}
use Rattle.cube.specs.Bits.{bit_at, has}
use Rattle.cube.specs.Cube.{uphill}

-- node n matches source s wherever s and target t match
unfoldable pub Between : ℕ → ℕ → ℕ → Type 0
Between s t n = (p : ℕ) → bit_at s p ≡ bit_at t p → bit_at n p ≡ bit_at s p

-- Promises 12: each bit of n is the source's or the target's. (Between.either_bit shows that both say the same.)
unfoldable pub EitherBit : ℕ → ℕ → ℕ → Type 0
EitherBit s t n = (p : ℕ) → (bit_at n p ≡ bit_at s p) ⊎ (bit_at n p ≡ bit_at t p)

-- the vector names uphill ports alone
unfoldable pub VectorUphill : ℕ → ℕ → ℕ → Type 0
VectorUphill s t vector = (p : ℕ) → has vector p ≡ true → uphill t s p ≡ true
