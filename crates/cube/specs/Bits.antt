-- Bits of a number, by arithmetic.
-- Assumes nothing.
use Rattle.std.specs.Prelude.{Bool, cond, ℕ, ◌+◌, ◌-◌, ◌/◌, ◌%◌, ◌^◌, eqb}
use Rattle.std.specs.Bool.{beq}

-- bit p of n
unfoldable pub bit_at : ℕ → ℕ → ℕ
bit_at n p = n / 2 ^ p % 2

-- bit p of n is set: a vector has port p (Paths 2)
unfoldable pub has : ℕ → ℕ → Bool
unfolding bit_at
has n p = eqb (bit_at n p) 1

-- Cube 6: n with bit p changed, and no other
unfoldable pub flip : ℕ → ℕ → ℕ
unfolding has
flip n p = cond (has n p) (n - 2 ^ p) (n + 2 ^ p)

-- n with bit p set or cleared, as `on` says
unfoldable pub with_bit : ℕ → ℕ → Bool → ℕ
with_bit n p on = cond (beq (has n p) on) n (flip n p)
