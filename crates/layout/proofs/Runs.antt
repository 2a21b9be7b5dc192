-- The or of a run of bytes, and what it says of them.
-- Assumes nothing.
use mathlib.Core.Path.{◌≡◌, refl, ◌∙◌}
use mathlib.Core.Bool.{true, false}
use mathlib.Core.List.{List, [], ◌∷◌}
use Prim.Native.Nat.{ℕ, zero, suc, ◌+◌, ◌^◌, ◌≤◌, ◌<◌}
use native.Mathlib.Omega.{arith}
use lib.ListN.{take, drop, get_or, length}
use Rattle.std.proofs.lemmas.List.{length-take-le, length-drop, get_or-take, get_or-drop}
use lib.Bits.{bit_or}
use Rattle.common.proofs.Tests.{or_left, or_right}
use Rattle.cube.specs.Bits.{has}
use Rattle.cube.proofs.Bits.{has_or, zero_has, high_has, no_bit_above}
use Rattle.layout.specs.LayoutContracts.{RunOr}
use Rattle.std.specs.List.{fold}
use Rattle.std.proofs.lemmas.Nat.{le_or_l, le_or_r}

-- more bytes joined to what was found
fold_above : (xs : List ℕ) (all : ℕ) → all ≤ fold bit_or all xs
fold_above [] all = omega arith
fold_above (x ∷ xs) all = omega (arith, le_or_l all x, fold_above xs (bit_or all x))

fold_none_above : (xs : List ℕ) (all j : ℕ) → j < length xs → get_or xs j 0 ≤ fold bit_or all xs
fold_none_above [] all j h = absurd (omega arith)
fold_none_above (x ∷ xs) all zero h = omega (arith, le_or_r all x, fold_above xs (bit_or all x))
fold_none_above (x ∷ xs) all (suc j) h = fold_none_above xs (bit_or all x) j (omega arith)

-- and their bits
fold_kept : (xs : List ℕ) (all p : ℕ) → has all p ≡ true → has (fold bit_or all xs) p ≡ true
fold_kept [] all p t = t
fold_kept (x ∷ xs) all p t = fold_kept xs (bit_or all x) p (has_or all x p ∙ or_left (has x p) t)

fold_joined : (xs : List ℕ) (all j p : ℕ) → j < length xs → has (get_or xs j 0) p ≡ true → has (fold bit_or all xs) p ≡ true
fold_joined [] all j p h t = absurd (omega arith)
fold_joined (x ∷ xs) all zero p h t = fold_kept xs (bit_or all x) p (has_or all x p ∙ or_right (has all p) t)
fold_joined (x ∷ xs) all (suc j) p h t = fold_joined xs (bit_or all x) j p (omega arith) t

fold_clear : (xs : List ℕ) (all p : ℕ) → has all p ≡ false → ((j : ℕ) → j < length xs → has (get_or xs j 0) p ≡ false) → has (fold bit_or all xs) p ≡ false
fold_clear [] all p h z = h
fold_clear (x ∷ xs) all p h z = fold_clear xs (bit_or all x) p (has_or all x p ∙ rw (h, z 0 (omega arith)) refl) (λ j l. z (suc j) (omega arith))

pub run_or : (run : List ℕ) → RunOr run (fold bit_or 0 run)
run_or run = record { joined = fold_joined run 0; clear = λ p z. fold_clear run 0 p (zero_has p) z; none_above = fold_none_above run 0 }

-- what it says of a run that is a part of some bytes
module _ (b : List ℕ) (i k : ℕ) {all : ℕ} (run : RunOr (take k (drop i b)) all) (room : i + k ≤ length b) where
  long : length (take k (drop i b)) ≡ k
  long = length-take-le k (drop i b) (rw length-drop (omega arith))

  byte : (j : ℕ) → j < k → get_or (take k (drop i b)) j 0 ≡ get_or b (i + j) 0
  byte j h = get_or-take k (drop i b) j 0 h ∙ get_or-drop i b j 0

  pub run_none_above : (j : ℕ) → j < k → get_or b (i + j) 0 ≤ all
  run_none_above j h = omega (arith, byte j h, run.none_above j (omega (arith, long)))

  pub run_joined : (j p : ℕ) → j < k → has (get_or b (i + j) 0) p ≡ true → has all p ≡ true
  run_joined j p h t = run.joined j p (omega (arith, long)) (rw (byte j h) t)

  pub run_clear : (p : ℕ) → ((j : ℕ) → j < k → has (get_or b (i + j) 0) p ≡ false) → has all p ≡ false
  run_clear p z = run.clear p (λ j h. let l : j < k = omega (arith, long) in rw (byte j l) (z j l))

  pub run_below : (w : ℕ) → ((j : ℕ) → j < k → get_or b (i + j) 0 < 2 ^ w) → all < 2 ^ w
  run_below w z = no_bit_above w all (λ p l. run_clear p (λ j h. high_has w (get_or b (i + j) 0) p (z j h) l))

  pub run_zero : all ≡ 0 → (j : ℕ) → j < k → get_or b (i + j) 0 ≡ 0
  run_zero z j h = omega (arith, run_none_above j h)
