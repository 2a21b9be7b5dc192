-- How many numbers below another pass a test: one and no other, exactly where one is kept.
-- Assumes nothing.
use mathlib.Core.Path.{◌≡◌, refl, sym, ◌∙◌}
use mathlib.Core.Logic.{⊎_elim}
use mathlib.Core.Bool.{Bool, true}
use mathlib.Core.List.Memᴰ
use mathlib.Core.List.{List, [], ◌∷◌}
use Prim.Native.Nat.{ℕ, ◌≤◌, ◌<◌}
use native.Mathlib.Omega.{arith}
use lib.ListN.{length}
use Rattle.common.specs.Lists.{◌∈◌, keep, from, Pairwise}
use Rattle.common.proofs.Lists.{keep_mem, mem_keep, keep_pairwise}
use Rattle.common.proofs.From.{from_mem, mem_from, from_pairwise, from_below, below_from}

pub one_kept : (w : ℕ) (f : ℕ → Bool) (k : ℕ) → k < w → f k ≡ true → ((j : ℕ) → j < w → f j ≡ true → j ≡ k) → length (keep f (from 0 w)) ≡ 1
one_kept w f k h e u = only (keep f (from 0 w)) (keep_pairwise f ◌<◌ (from 0 w) (from_pairwise 0 w)) (mem_keep f (from 0 w) (below_from w k h) e) (λ j m. let r = keep_mem f (from 0 w) m in u j (let b = from_mem 0 w r.0 in omega arith) r.1)
  where
    only : (xs : List ℕ) → Pairwise ◌<◌ xs → k ∈ xs → ((j : ℕ) → j ∈ xs → j ≡ k) → length xs ≡ 1
    only [] s m g = absurd (Memᴰ.not-nil m)
    only (x ∷ []) s m g = refl
    only (x ∷ y ∷ xs) s m g = unfold Pairwise in absurd (omega (arith, s.0 y (Memᴰ.head refl), g x (Memᴰ.head refl), g y (Memᴰ.tail (Memᴰ.head refl))))

-- where one passes, some is kept
pub some_kept : (w : ℕ) (f : ℕ → Bool) (k : ℕ) → k < w → f k ≡ true → 1 ≤ length (keep f (from 0 w))
some_kept w f k h e = go (keep f (from 0 w)) (mem_keep f (from 0 w) (below_from w k h) e)
  where
    go : (xs : List ℕ) → k ∈ xs → 1 ≤ length xs
    go [] m = absurd (Memᴰ.not-nil m)
    go (x ∷ xs) m = omega arith

pub kept_one : (w : ℕ) (f : ℕ → Bool) → length (keep f (from 0 w)) ≡ 1 → (k : ℕ) × (k < w) × (f k ≡ true) × ((j : ℕ) → j < w → f j ≡ true → j ≡ k)
kept_one w f e = go (keep f (from 0 w)) refl e
  where
    go : (xs : List ℕ) → keep f (from 0 w) ≡ xs → length xs ≡ 1 → (k : ℕ) × (k < w) × (f k ≡ true) × ((j : ℕ) → j < w → f j ≡ true → j ≡ k)
    go [] q l = absurd (omega arith)
    go (x ∷ y ∷ xs) q l = absurd (omega arith)
    go (x ∷ []) q l =
        let m : x ∈ keep f (from 0 w) = rw q (Memᴰ.head refl) in
        let r = keep_mem f (from 0 w) m in
        (x, from_below w x r.0, r.1, λ j h t. let i : j ∈ (x ∷ []) = rw q at (mem_keep f (from 0 w) (mem_from 0 w j (omega arith) (omega arith)) t) in ⊎_elim (λ z. z) (λ z. absurd (Memᴰ.not-nil z)) (Memᴰ.cases_cons i))

-- where no more than one is kept, one that passes is the only one
pub few_kept : (w : ℕ) (f : ℕ → Bool) → length (keep f (from 0 w)) ≤ 1 → (k : ℕ) → k < w → f k ≡ true → (j : ℕ) → j < w → f j ≡ true → j ≡ k
few_kept w f h k l t j b e = let one = kept_one w f (omega (arith, some_kept w f k l t)) in one.3 j b e ∙ sym (one.3 k l t)
