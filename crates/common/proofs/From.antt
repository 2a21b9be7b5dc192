-- Laws of `from`, the numbers from one on, and of counting those that pass a test.
-- Assumes nothing.
use mathlib.Core.Path.{◌≡◌, refl, ap, ◌∙◌, sym}
use mathlib.Core.Logic.{⊎_elim}
use mathlib.Core.Bool.{Bool, true, false}
use mathlib.Core.List.Memᴰ
use mathlib.Core.List.{[], ◌∷◌, ◌++◌}
use Prim.Native.Nat.{ℕ, zero, suc, ◌+◌, ◌≤◌, ◌<◌}
use native.Mathlib.Omega.{arith}
use native.Mathlib.Nat.{eq-or-lt_of_le}
use native.Mathlib.Numerals.{add-one}
use lib.ListN.{length, length-append}
use Rattle.common.specs.Lists.{◌∈◌, keep, from, Pairwise}
use Rattle.common.proofs.Lists.{keep_nil, keep_yes, keep_no, keep_mem, mem_keep, keep_append, keep_none}

-- the numbers from s, k of them: which they are, that they rise, how many
pub from_mem : (s k : ℕ) {n : ℕ} → n ∈ from s k → (s ≤ n) × (n < s + k)
unfolding from
from_mem s zero m = absurd (Memᴰ.not-nil m)
from_mem s (suc k) {n} m = ⊎_elim (λ e. omega arith) (λ l. let r = from_mem (suc s) k l in omega arith) (Memᴰ.cases_cons m)

pub mem_from : (s k n : ℕ) → s ≤ n → n < s + k → n ∈ from s k
unfolding from
mem_from s zero n h l = absurd (omega arith)
mem_from s (suc k) n h l =
    ⊎_elim (λ e. Memᴰ.head (sym e)) (λ g. Memᴰ.tail (mem_from (suc s) k n g (omega arith))) (eq-or-lt_of_le h)

pub from_pairwise : (s k : ℕ) → Pairwise ◌<◌ (from s k)
unfolding from Pairwise
from_pairwise s zero = tt
from_pairwise s (suc k) = ((λ n m. (from_mem (suc s) k m).0), from_pairwise (suc s) k)

pub length_from : (s k : ℕ) → length (from s k) ≡ k
unfolding from
length_from s zero = refl
length_from s (suc k) = ap suc (length_from (suc s) k)

-- the numbers below k, and those of them that pass a test
pub from_below : (k n : ℕ) → n ∈ from 0 k → n < k
from_below k n m = let r = from_mem 0 k m in omega arith

pub below_from : (k n : ℕ) → n < k → n ∈ from 0 k
below_from k n h = mem_from 0 k n (omega arith) (omega arith)

pub kept_below : (f : ℕ → Bool) (k n : ℕ) → n ∈ keep f (from 0 k) → (n < k) × (f n ≡ true)
kept_below f k n m = let r = keep_mem f (from 0 k) m in (from_below k n r.0, r.1)

pub below_kept : (f : ℕ → Bool) (k n : ℕ) → n < k → f n ≡ true → n ∈ keep f (from 0 k)
below_kept f k n h e = mem_keep f (from 0 k) (below_from k n h) e

-- numbers that do not pass the test may be left out at the end
pub keep_wider : (f : ℕ → Bool) (s k l : ℕ) → k ≤ l → ((n : ℕ) → s + k ≤ n → f n ≡ false) → keep f (from s l) ≡ keep f (from s k)
unfolding from
keep_wider f s zero l h z = keep_none f (from s l) (λ n m. let r = from_mem s l m in z n (omega arith)) ∙ sym (keep_nil f)
keep_wider f s (suc k) zero h z = absurd (omega arith)
keep_wider f s (suc k) (suc l) h z = go (f s) refl (keep_wider f (suc s) k l (omega arith) (λ n i. z n (omega arith)))
  where
    go : (b : Bool) → f s ≡ b → keep f (from (suc s) l) ≡ keep f (from (suc s) k) → keep f (s ∷ from (suc s) l) ≡ keep f (s ∷ from (suc s) k)
    go true e ih = rw (keep_yes f s (from (suc s) l) e, keep_yes f s (from (suc s) k) e, ih)
    go false e ih = rw (keep_no f s (from (suc s) l) e, keep_no f s (from (suc s) k) e, ih)

-- the numbers on either side of one of them; so one number more stands at the end
pub from_split : (s k j : ℕ) → from s (k + suc j) ≡ from s k ++ (s + k) ∷ from (suc (s + k)) j
unfolding from
from_split s zero j = let z : s + 0 ≡ s = omega arith in let e : 0 + suc j ≡ suc j = omega arith in rw (z, e)
from_split s (suc k) j = let z : s + suc k ≡ suc s + k = omega arith in let e : suc k + suc j ≡ suc (k + suc j) = omega arith in rw (z, e) (ap (s ∷◌) (from_split (suc s) k j))

pub from_last : (s k : ℕ) → from s (suc k) ≡ from s k ++ ((s + k) ∷ [])
unfolding from
from_last s k = let e : k + 1 ≡ suc k = omega arith in rw e at (from_split s k 0)

-- counting the numbers below k that pass a test
module _ (f : ℕ → Bool) where
  pub count_none : 0 ≡ length (keep f (from 0 0))
  unfolding from
  count_none = rw (keep_nil f)

  more : (k : ℕ) → length (keep f (from 0 (k + 1))) ≡ length (keep f (from 0 k)) + length (keep f (k ∷ []))
  more k =
      let last : 0 + k ≡ k = omega arith in
      ap (λ n. length (keep f (from 0 n))) (add-one k) ∙ ap (λ xs. length (keep f xs)) (from_last 0 k ∙ ap (λ n. from 0 k ++ (n ∷ [])) last)
      ∙ ap length (keep_append f (from 0 k) (k ∷ [])) ∙ length-append (keep f (from 0 k)) (keep f (k ∷ []))

  pub count_yes : (k count : ℕ) → f k ≡ true → count ≡ length (keep f (from 0 k)) → count + 1 ≡ length (keep f (from 0 (k + 1)))
  count_yes k count e h =
      let one : length (keep f (k ∷ [])) ≡ 1 = ap length (keep_yes f k [] e ∙ ap (k ∷◌) (keep_nil f)) in
      omega (arith, more k)

  pub count_no : (k count : ℕ) → f k ≡ false → count ≡ length (keep f (from 0 k)) → count ≡ length (keep f (from 0 (k + 1)))
  count_no k count e h =
      let none : length (keep f (k ∷ [])) ≡ 0 = ap length (keep_no f k [] e ∙ keep_nil f) in
      omega (arith, more k)
