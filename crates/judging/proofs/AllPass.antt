-- What a test over a list says of its members.
-- Assumes nothing.
use mathlib.Core.Path.{◌≡◌, refl}
use mathlib.Core.Bool.{Bool, true}
use mathlib.Core.List.Memᴰ
use mathlib.Core.List.{List, [], ◌∷◌}
use Rattle.std.specs.List.{list_all}
use Rattle.common.specs.Lists.{◌∈◌}
use Rattle.common.proofs.Lists.{all_cons}
use Rattle.common.proofs.Tests.{both, and}

-- a test passes over a list exactly where every member passes it
module _ {A : Type 0} (f : A → Bool) where
  pub all_pass : (xs : List A) → list_all f xs ≡ true → (x : A) → x ∈ xs → f x ≡ true
  all_pass [] e = λ x m. absurd (Memᴰ.not-nil m)
  all_pass (x ∷ xs) e = let r = both (f x) _ e in all_cons (λ x. f x ≡ true) r.0 (all_pass xs r.1)

  pub pass_all : (xs : List A) → ((x : A) → x ∈ xs → f x ≡ true) → list_all f xs ≡ true
  pass_all [] h = refl
  pass_all (x ∷ xs) h = and (h x (Memᴰ.head refl)) (pass_all xs (λ y m. h y (Memᴰ.tail m)))
