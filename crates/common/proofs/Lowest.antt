-- The lowest number that passes a test: as a loop finds it, and what it says.
-- Assumes nothing.
use mathlib.Core.Path.{◌≡◌, refl, sym, ap, ◌∙◌, subst}
use mathlib.Core.Logic.{◌⊎◌, inl, inr, ⊎_elim, ◌≢◌}
use mathlib.Core.Bool.{Bool, true, false, cond}
use Prim.Native.Nat.{ℕ, zero, suc, ◌+◌, ◌-◌, ◌≤◌, ◌<◌}
use native.Mathlib.Omega.{arith}
use lib.Dec.{ltb}
use borrow.Author.Tests.{ltb-true, ltb-false}
use Rattle.std.specs.Prelude.{Some, None}
use Rattle.common.specs.Lists.{lowest}
use Rattle.common.specs.SomeBelow.{some_below}
use Rattle.common.proofs.Tests.{same?, clash, below_or}

module _ (f : ℕ → Bool) (n k : ℕ) (h : k < n) where
  step : n - k ≡ suc (n - (k + 1))
  step = omega arith

  pub lowest_here : f k ≡ true → lowest f (n - k) k ≡ k
  lowest_here e = rw step (unfold lowest in rw e)

  pub lowest_on : f k ≡ false → lowest f (n - k) k ≡ lowest f (n - (k + 1)) (k + 1)
  lowest_on e = rw step (unfold lowest in rw e)

pub lowest_end : (f : ℕ → Bool) (n k : ℕ) → k ≡ n → lowest f (n - k) k ≡ k
lowest_end f n k e = let z : n - k ≡ 0 = omega arith in rw z (unfold lowest in refl)

-- where none below k passes, the lowest from k on is the lowest of all
pub lowest_skip : (f : ℕ → Bool) (n k : ℕ) → k ≤ n → ((j : ℕ) → j < k → f j ≡ false) → lowest f (n - k) k ≡ lowest f n 0
lowest_skip f n zero h e = let z : n - 0 ≡ n = omega arith in rw z
lowest_skip f n (suc k) h e =
    let next : k + 1 ≡ suc k = omega arith in
    subst (λ m. lowest f (n - m) m ≡ lowest f n 0) next (sym (lowest_on f n k (omega arith) (e k (omega arith))) ∙ lowest_skip f n k (omega arith) (λ j l. e j (omega arith)))

-- of k numbers from i on: it is at most i + k, passes where it is below that, and none from i on before it passes
pub lowest_most : (f : ℕ → Bool) (k i : ℕ) → lowest f k i ≤ i + k
unfolding lowest
lowest_most f zero i = omega arith
lowest_most f (suc k) i = go (f i) (lowest_most f k (i + 1))
  where
    go : (x : Bool) → lowest f k (i + 1) ≤ i + 1 + k → cond x i (lowest f k (i + 1)) ≤ i + suc k
    go true h = omega arith
    go false h = omega arith

pub lowest_passes : (f : ℕ → Bool) (k i : ℕ) → lowest f k i < i + k → f (lowest f k i) ≡ true
unfolding lowest
lowest_passes f zero i h = absurd (omega arith)
lowest_passes f (suc k) i h = go (f i) refl h (lowest_passes f k (i + 1))
  where
    go : (x : Bool) → f i ≡ x → cond x i (lowest f k (i + 1)) < i + suc k → (lowest f k (i + 1) < i + 1 + k → f (lowest f k (i + 1)) ≡ true) → f (cond x i (lowest f k (i + 1))) ≡ true
    go true e l more = e
    go false e l more = more (omega arith)

pub lowest_before : (f : ℕ → Bool) (k i j : ℕ) → i ≤ j → j < lowest f k i → f j ≡ false
unfolding lowest
lowest_before f zero i j a h = absurd (omega arith)
lowest_before f (suc k) i j a h = go (f i) refl h (lowest_before f k (i + 1) j) (same? j i)
  where
    go : (x : Bool) → f i ≡ x → j < cond x i (lowest f k (i + 1)) → (i + 1 ≤ j → j < lowest f k (i + 1) → f j ≡ false) → (j ≡ i) ⊎ (j ≢ i) → f j ≡ false
    go true e l more z = absurd (omega arith)
    go false e l more (inl z) = ap f z ∙ e
    go false e l more (inr z) = more (omega arith) l

-- one that passes is not below it
pub lowest_found : (f : ℕ → Bool) (k i j : ℕ) → i ≤ j → f j ≡ true → lowest f k i ≤ j
lowest_found f k i j a e = ⊎_elim (λ h. absurd (clash e (lowest_before f k i j a h))) (λ h. h) (below_or (lowest f k i) j)

-- tests that agree there have the same lowest
pub lowest_same : (f g : ℕ → Bool) (k i : ℕ) → ((j : ℕ) → i ≤ j → j < i + k → f j ≡ g j) → lowest f k i ≡ lowest g k i
unfolding lowest
lowest_same f g zero i h = refl
lowest_same f g (suc k) i h =
    rw (h i (omega arith) (omega arith)) (ap (cond (g i) i) (lowest_same f g k (i + 1) (λ j a b. h j (omega arith) (omega arith))))

-- what an answer says that is a number where it is below n, and nothing where it is not
pub some_is : {n k x : ℕ} → Some k ≡ some_below n x → (k ≡ x) × (x < n)
some_is {n} {k} {x} e = go (ltb x n) refl e
  where
    go : (y : Bool) → ltb x n ≡ y → Some k ≡ cond y (Some x) None → (k ≡ x) × (x < n)
    go true q z = (cc, ltb-true x n q)
    go false q z = absurd (cc)

pub none_is : {n x : ℕ} → None ≡ some_below n x → n ≤ x
none_is {n} {x} e = go (ltb x n) refl e
  where
    go : (y : Bool) → ltb x n ≡ y → None ≡ cond y (Some x) None → n ≤ x
    go true q z = absurd (cc)
    go false q z = ltb-false x n q
