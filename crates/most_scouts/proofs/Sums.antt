-- Sums over the members of a list, by what tests them.
-- Assumes nothing.
use mathlib.Core.Path.{◌≡◌, refl, ap, ◌∙◌}
use mathlib.Core.Bool.{Bool, true, false, cond, not}
use mathlib.Core.List.Memᴰ
use mathlib.Core.List.{List, [], ◌∷◌}
use Prim.Native.Nat.{ℕ, ◌+◌, ◌*◌}
use native.Mathlib.Omega.{arith}
use borrow.Author.Tests.{ltb-true, ltb-false, lt-leb, le-leb}
use lib.ListN.{length}
use lib.Dec.{ltb, leb}
use Rattle.std.specs.List.{sum_by}
use Rattle.std.proofs.lemmas.List.Sums.{sum_by-append, sum_by-cons}
use Rattle.common.specs.Lists.{◌∈◌, keep}
use Rattle.common.proofs.Lists.{keep_same}
use Rattle.cube.specs.Helical.{helical}

module _ {A : Type 0} where
  pub sum_nil : (f : A → ℕ) → sum_by f [] ≡ 0
  sum_nil f = refl

  -- the members that pass a test and those that do not
  pub sum_parts : (f : A → ℕ) (g : A → Bool) (xs : List A) → sum_by f (keep g xs) + sum_by f (keep (λ x. not (g x)) xs) ≡ sum_by f xs
  unfolding keep
  sum_parts f g [] = omega (arith, sum_nil f)
  sum_parts f g (x ∷ xs) = go (g x) (sum_parts f g xs)
    where
      go : (b : Bool) → sum_by f (keep g xs) + sum_by f (keep (λ x. not (g x)) xs) ≡ sum_by f xs
          → sum_by f (cond b (x ∷ keep g xs) (keep g xs)) + sum_by f (cond (not b) (x ∷ keep (λ x. not (g x)) xs) (keep (λ x. not (g x)) xs)) ≡ sum_by f (x ∷ xs)
      go true h = omega (arith, h, sum_by-cons f x xs, sum_by-cons f x (keep g xs))
      go false h = omega (arith, h, sum_by-cons f x xs, sum_by-cons f x (keep (λ x. not (g x)) xs))

  pub sum_same : (f g : A → ℕ) (xs : List A) → ((x : A) → x ∈ xs → f x ≡ g x) → sum_by f xs ≡ sum_by g xs
  sum_same f g [] h = omega (arith, sum_nil f, sum_nil g)
  sum_same f g (x ∷ xs) h = omega (arith, sum_by-cons f x xs, sum_by-cons g x xs, h x (Memᴰ.head refl), sum_same f g xs (λ y m. h y (Memᴰ.tail m)))

  -- each member adds the same
  pub sum_equal : (f : A → ℕ) (c : ℕ) (xs : List A) → ((x : A) → x ∈ xs → f x ≡ c) → sum_by f xs ≡ length xs * c
  sum_equal f c [] h = omega (arith, sum_nil f)
  sum_equal f c (x ∷ xs) h = omega (arith, sum_by-cons f x xs, h x (Memᴰ.head refl), sum_equal f c xs (λ y m. h y (Memᴰ.tail m)))

-- the helical order adds up to the same
pub sum_helical : (f : ℕ → ℕ) (a : ℕ) (ps : List ℕ) → sum_by f (helical a ps) ≡ sum_by f ps
unfolding helical
sum_helical f a ps =
    sum_by-append f (keep (λ p. ltb a p) ps) (keep (λ p. leb p a) ps)
    ∙ ap (λ xs. sum_by f (keep (λ p. ltb a p) ps) + sum_by f xs) (keep_same (λ p. leb p a) (λ p. not (ltb a p)) ps (λ p m. other p (ltb a p) refl))
    ∙ sum_parts f (λ p. ltb a p) ps
  where
    other : (p : ℕ) (b : Bool) → ltb a p ≡ b → leb p a ≡ not b
    other p true e = lt-leb p a (ltb-true a p e)
    other p false e = le-leb p a (ltb-false a p e)
