-- A test at every number below a bound, or at every entry of a list: computed once, and read off at each.
-- Assumes nothing.
use mathlib.Core.Path.{◌≡◌, refl}
use mathlib.Core.Logic.{◌⊎◌, inl, inr, ⊎_elim}
use mathlib.Core.Bool.{Bool, true, false, ◌&&◌}
use mathlib.Core.List.{List, [], ◌∷◌}
use Prim.Native.Nat.{ℕ, zero, suc, ◌+◌, ◌<◌}
use native.Mathlib.Nat.{not-suc-le-zero, eq-or-lt_of_le, le_of_suc-le-suc, add-zero, zero-add, add-suc, suc-add}
use native.Mathlib.Omega.{arith}
use lib.Dec.{eqb}
use lib.ListN.{length, get_or}
use borrow.Author.Tests.{eqb-true}
use Rattle.common.specs.Lists.{every}
use Rattle.common.proofs.Tests.{both, and}

pub at : (n : ℕ) (f : ℕ → Bool) → every n f ≡ true → (k : ℕ) → k < n → f k ≡ true
at zero f t k h = absurd (not-suc-le-zero h)
at (suc n) f t k h =
    let r = both (f n) (every n f) t in
    ⊎_elim (λ e. rw e r.0) (λ l. at n f r.1 k l) (eq-or-lt_of_le (le_of_suc-le-suc h))

pub all : (n : ℕ) (f : ℕ → Bool) → ((k : ℕ) → k < n → f k ≡ true) → every n f ≡ true
all zero f h = refl
all (suc n) f h = and (h n (omega arith)) (all n f (λ k l. h k (omega arith)))

-- at every pair of a number below n and one below m
pub at₂ : (n m : ℕ) (f : ℕ → ℕ → Bool) → every n (λ i. every m (f i)) ≡ true → (i j : ℕ) → i < n → j < m → f i j ≡ true
at₂ n m f t i j h l = at m (f i) (at n (λ i. every m (f i)) t i h) j l

-- at every entry of a list, with its place counted from i
abbrev pub every_entry : (ℕ → ℕ → Bool) → ℕ → List ℕ → Bool
every_entry f i [] = true
every_entry f i (x ∷ xs) = f i x && every_entry f (suc i) xs

entry_from : (f : ℕ → ℕ → Bool) (xs : List ℕ) (i : ℕ) → every_entry f i xs ≡ true → (k : ℕ) → k < length xs → f (i + k) (get_or xs k 0) ≡ true
entry_from f [] i t k h = absurd (not-suc-le-zero h)
entry_from f (x ∷ xs) i t zero h = rw (add-zero i) (both (f i x) (every_entry f (suc i) xs) t).0
entry_from f (x ∷ xs) i t (suc k) h =
    rw (add-suc i k, ← suc-add i k)
    (entry_from f xs (suc i) (both (f i x) (every_entry f (suc i) xs) t).1 k (le_of_suc-le-suc h))

pub entry : (f : ℕ → ℕ → Bool) (xs : List ℕ) → every_entry f 0 xs ≡ true → (k : ℕ) → k < length xs → f k (get_or xs k 0) ≡ true
entry f xs t k h = rw zero-add at (entry_from f xs 0 t k h)

-- a table whose every entry is what f says at its place: one computed test, and the rule at each
pub table_rule : (f : ℕ → ℕ) (n : ℕ) (xs : List ℕ) → length xs ≡ n → every_entry (λ k x. eqb x (f k)) 0 xs ≡ true → (k : ℕ) → k < n → get_or xs k 0 ≡ f k
table_rule f n xs l t k h = eqb-true (get_or xs k 0) (f k) (entry (λ k x. eqb x (f k)) xs t k (rw l h))

-- some number below n passes a test, or none does; and so for pairs
pub decide : (n : ℕ) (f : ℕ → Bool) → ((k : ℕ) × (k < n) × (f k ≡ true)) ⊎ ((k : ℕ) → k < n → f k ≡ false)
decide zero f = inr (λ k h. absurd (not-suc-le-zero h))
decide (suc n) f = go (f n) refl (decide n f)
  where
    go : (b : Bool) → f n ≡ b → ((k : ℕ) × (k < n) × (f k ≡ true)) ⊎ ((k : ℕ) → k < n → f k ≡ false) → ((k : ℕ) × (k < suc n) × (f k ≡ true)) ⊎ ((k : ℕ) → k < suc n → f k ≡ false)
    go true e r = inl (n, omega arith, e)
    go false e (inl s) = inl (s.0, (let l = s.1 in omega arith), s.2)
    go false e (inr h) = inr (λ k l. ⊎_elim (λ q. rw q e) (λ g. h k g) (eq-or-lt_of_le (le_of_suc-le-suc l)))

pub decide₂ : (n m : ℕ) (f : ℕ → ℕ → Bool) → ((i : ℕ) × (j : ℕ) × (f i j ≡ true)) ⊎ ((i j : ℕ) → i < n → j < m → f i j ≡ false)
decide₂ zero m f = inr (λ i j h l. absurd (not-suc-le-zero h))
decide₂ (suc n) m f = go (decide m (f n)) (decide₂ n m f)
  where
    go : ((k : ℕ) × (k < m) × (f n k ≡ true)) ⊎ ((k : ℕ) → k < m → f n k ≡ false) → ((i : ℕ) × (j : ℕ) × (f i j ≡ true)) ⊎ ((i j : ℕ) → i < n → j < m → f i j ≡ false)
        → ((i : ℕ) × (j : ℕ) × (f i j ≡ true)) ⊎ ((i j : ℕ) → i < suc n → j < m → f i j ≡ false)
    go (inl s) r = inl (n, s.0, s.2)
    go (inr h) (inl s) = inl s
    go (inr h) (inr g) = inr (λ i j l k. ⊎_elim (λ q. rw q (h j k)) (λ x. g i j x k) (eq-or-lt_of_le (le_of_suc-le-suc l)))
