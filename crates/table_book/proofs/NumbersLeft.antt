-- What a search among numbers leaves: those above the one that it found, or none.
-- Assumes nothing.
use mathlib.Core.Path.{◌≡◌, ap, sym}
use mathlib.Core.List.{List, [], ◌∷◌}
use Prim.Native.Nat.{ℕ, ◌+◌, ◌≤◌}
use native.Mathlib.Omega.{arith}
use Rattle.std.specs.Prelude.{Option, None, Some, MatchOption}
use Rattle.std.specs.Iterator.{Yields, YieldsThen}
use Rattle.std.specs.declared.ops.Range.{Range}
use Rattle.std.proofs.iter.Yields.{nat_range_steps}

-- as far as numbers were passed over
passed_over : (xs : List ℕ) (s t : Range ℕ) → Yields nat_range_steps s xs t → s.start ≤ s.end → (t.end ≡ s.end) × (s.start ≤ t.start) × (t.start ≤ t.end)
passed_over [] s t y l = (ap (λ k. k.end) (sym y), omega (arith, ap (λ (k : Range ℕ). k.start) y), omega (arith, ap (λ (k : Range ℕ). k.start) y, ap (λ (k : Range ℕ). k.end) y))
passed_over (x ∷ xs) s t y l =
    let more = passed_over xs y.0 t y.2 (omega (arith, y.1)) in
    omega (arith, y.1, more)

pub numbers_left : (s u : Range ℕ) (xs : List ℕ) (r : Option ℕ) → YieldsThen nat_range_steps s xs r u → s.start ≤ s.end → (u.end ≡ s.end) × (s.start ≤ u.start) × (u.start ≤ u.end) × MatchOption r (u.start ≡ u.end) (λ x. u.start ≡ x + 1)
numbers_left s u xs None d l =
    let to = passed_over xs s d.0 d.1 l in
    (omega (arith, to, d.2), omega (arith, to, d.2), omega (arith, to, d.2), omega (arith, to, d.2))
numbers_left s u xs (Some x) d l =
    let to = passed_over xs s d.0 d.1 l in
    (omega (arith, to, d.2), omega (arith, to, d.2), omega (arith, to, d.2), omega (arith, to, d.2))
