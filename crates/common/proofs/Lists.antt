-- Laws of `keep`, `any` and `Pairwise`.
-- Assumes nothing.
use mathlib.Core.Path.{◌≡◌, refl, ap, ◌∙◌, sym, subst}
use mathlib.Core.Logic.{⊎_elim}
use mathlib.Core.Bool.{Bool, true, false, cond, ◌&&◌, not, and_comm, true≢false}
use mathlib.Core.List.Memᴰ
use mathlib.Core.List.{List, [], ◌∷◌, ◌++◌, map}
use Prim.Native.Nat.{ℕ, zero, suc, ◌+◌, ◌≤◌, ◌<◌}
use native.Mathlib.Omega.{arith}
use lib.Dec.{eqb}
use lib.ListN.{length, get_or}
use borrow.Author.Tests.{eq-eqb, ne_eqb}
use Rattle.common.specs.Lists.{◌∈◌, keep, any, Pairwise}
use Rattle.common.proofs.Tests.{clash, either, or_left, or_right}

-- what holds of every member, where a list is put together of others or is another under a function
module _ {A : Type 0} (P : A → Type 0) where
  pub all_cons : {x : A} {xs : List A} → P x → ((y : A) → y ∈ xs → P y) → (y : A) → y ∈ (x ∷ xs) → P y
  all_cons here there y m = ⊎_elim (λ e. rw e here) (there y) (Memᴰ.cases_cons m)

  pub all_append : (xs : List A) {ys : List A} → ((x : A) → x ∈ xs → P x) → ((y : A) → y ∈ ys → P y) → (z : A) → z ∈ (xs ++ ys) → P z
  all_append xs here there z m = ⊎_elim (here z) (there z) (Memᴰ.append_cases xs m)

  pub all_map : {B : Type 0} (f : B → A) (xs : List B) → ((x : B) → x ∈ xs → P (f x)) → (y : A) → y ∈ map f xs → P y
  all_map f xs each y m = let r = Memᴰ.of_map f xs m in subst P r.2 (each r.0 r.1)

module _ {A : Type 0} (f : A → Bool) where
  -- `keep` of nothing, and of a list whose first member passes or does not
  pub keep_nil : keep f [] ≡ []
  unfolding keep
  keep_nil = refl

  pub keep_yes : (x : A) (xs : List A) → f x ≡ true → keep f (x ∷ xs) ≡ x ∷ keep f xs
  unfolding keep
  keep_yes x xs e = rw e

  pub keep_no : (x : A) (xs : List A) → f x ≡ false → keep f (x ∷ xs) ≡ keep f xs
  unfolding keep
  keep_no x xs e = rw e

  -- what is kept was there, and passes the test
  pub keep_mem : (xs : List A) {y : A} → y ∈ keep f xs → (y ∈ xs) × (f y ≡ true)
  keep_mem [] m = absurd (Memᴰ.not-nil (rw keep_nil at m))
  keep_mem (x ∷ xs) {y} m = go (f x) refl (keep_mem xs)
    where
      later : (y ∈ xs) × (f y ≡ true) → (y ∈ (x ∷ xs)) × (f y ≡ true)
      later r = (Memᴰ.tail r.0, r.1)

      go : (b : Bool) → f x ≡ b → (y ∈ keep f xs → (y ∈ xs) × (f y ≡ true)) → (y ∈ (x ∷ xs)) × (f y ≡ true)
      go true e ih = ⊎_elim (λ h. (Memᴰ.head h, ap f h ∙ e)) (λ h. later (ih h)) (Memᴰ.cases_cons (rw (keep_yes x xs e) at m))
      go false e ih = later (ih (rw (keep_no x xs e) at m))

  -- what was there and passes is kept
  pub mem_keep : (xs : List A) {y : A} → y ∈ xs → f y ≡ true → y ∈ keep f xs
  mem_keep [] {y = y} x'' t = elim x'' [ ]
  mem_keep (x ∷ xs) {y} (Memᴰ.head h) t = rw (keep_yes x xs (sym (ap f h) ∙ t)) (Memᴰ.head h)
  mem_keep (x ∷ xs) {y} (Memᴰ.tail m) t = go (f x) refl (mem_keep xs m t)
    where
      go : (b : Bool) → f x ≡ b → y ∈ keep f xs → y ∈ keep f (x ∷ xs)
      go true e k = rw (keep_yes x xs e) (Memᴰ.tail k)
      go false e k = rw (keep_no x xs e) k

  pub keep_append : (xs ys : List A) → keep f (xs ++ ys) ≡ keep f xs ++ keep f ys
  keep_append [] ys = rw keep_nil
  keep_append (x ∷ xs) ys = go (f x) refl (keep_append xs ys)
    where
      go : (b : Bool) → f x ≡ b → keep f (xs ++ ys) ≡ keep f xs ++ keep f ys → keep f (x ∷ (xs ++ ys)) ≡ keep f (x ∷ xs) ++ keep f ys
      go true e ih = rw (keep_yes x (xs ++ ys) e, keep_yes x xs e, ih)
      go false e ih = rw (keep_no x (xs ++ ys) e, keep_no x xs e, ih)

  -- a test that every member passes keeps the list, one that none passes keeps nothing
  pub keep_all : (xs : List A) → ((y : A) → y ∈ xs → f y ≡ true) → keep f xs ≡ xs
  keep_all [] h = keep_nil
  keep_all (x ∷ xs) h = keep_yes x xs (h x (Memᴰ.head refl)) ∙ ap (x ∷◌) (keep_all xs (λ y m. h y (Memᴰ.tail m)))

  pub keep_none : (xs : List A) → ((y : A) → y ∈ xs → f y ≡ false) → keep f xs ≡ []
  keep_none [] h = keep_nil
  keep_none (x ∷ xs) h = keep_no x xs (h x (Memᴰ.head refl)) ∙ keep_none xs (λ y m. h y (Memᴰ.tail m))

  -- two tests one after the other are one
  pub keep_keep : (g : A → Bool) (xs : List A) → keep f (keep g xs) ≡ keep (λ x. g x && f x) xs
  unfolding keep
  keep_keep g [] = refl
  keep_keep g (x ∷ xs) = go (g x) refl (keep_keep g xs)
    where
      go : (b : Bool) → g x ≡ b → keep f (keep g xs) ≡ keep (λ y. g y && f y) xs → keep f (keep g (x ∷ xs)) ≡ keep (λ y. g y && f y) (x ∷ xs)
      go true e ih = rw (e, ih)
      go false e ih = rw (e, ih)

  -- what is kept of a sorted list is sorted
  pub keep_pairwise : (R : A → A → Type 0) (xs : List A) → Pairwise R xs → Pairwise R (keep f xs)
  unfolding Pairwise
  keep_pairwise R [] s = rw keep_nil tt
  keep_pairwise R (x ∷ xs) s = go (f x) refl (keep_pairwise R xs s.1)
    where
      go : (b : Bool) → f x ≡ b → Pairwise R (keep f xs) → Pairwise R (keep f (x ∷ xs))
      go true e ih = rw (keep_yes x xs e) ((λ y m. s.0 y (keep_mem xs m).0), ih)
      go false e ih = rw (keep_no x xs e) ih

-- two tests that agree on a list keep the same
pub keep_same : {A : Type 0} (f g : A → Bool) (xs : List A) → ((y : A) → y ∈ xs → f y ≡ g y) → keep f xs ≡ keep g xs
unfolding keep
keep_same f g [] h = refl
keep_same f g (x ∷ xs) h = rw (h x (Memᴰ.head refl), keep_same f g xs (λ y m. h y (Memᴰ.tail m)))

-- two tests may be made in either order
pub keep_swap : {A : Type 0} (f g : A → Bool) (xs : List A) → keep f (keep g xs) ≡ keep g (keep f xs)
keep_swap f g xs = keep_keep f g xs ∙ keep_same _ _ xs (λ y m. and_comm (g y) (f y)) ∙ sym (keep_keep g f xs)

-- a sorted list behind another, each member of the one in the relation to each of the other
pub pairwise_append : {A : Type 0} {R : A → A → Type 0} (xs ys : List A) → Pairwise R xs → Pairwise R ys → ((x y : A) → x ∈ xs → y ∈ ys → R x y) → Pairwise R (xs ++ ys)
unfolding Pairwise
pairwise_append [] ys left right across = right
pairwise_append {R = R} (x ∷ xs) ys left right across =
    (all_append (R x) xs left.0 (λ y. across x y (Memᴰ.head refl)), pairwise_append xs ys left.1 right (λ u y m. across u y (Memᴰ.tail m)))

-- a relation that follows from another for whatever has P, where every member has it
pairwise_among : {A : Type 0} {R S : A → A → Type 0} (P : A → Type 0) → ((x y : A) → P x → P y → R x y → S x y) → (xs : List A) → ((x : A) → x ∈ xs → P x) → Pairwise R xs → Pairwise S xs
unfolding Pairwise
pairwise_among P follows [] each s = tt
pairwise_among P follows (x ∷ xs) each s =
    let later : (y : _) → y ∈ xs → P y = λ y m. each y (Memᴰ.tail m) in
    ((λ y m. follows x y (each x (Memᴰ.head refl)) (later y m) (s.0 y m)), pairwise_among P follows xs later s.1)

-- so for the members, and for those of them that pass a test
pub pairwise_imp : {A : Type 0} (R S : A → A → Type 0) (xs : List A) → ((x y : A) → x ∈ xs → y ∈ xs → R x y → S x y) → Pairwise R xs → Pairwise S xs
pairwise_imp R S xs follows = pairwise_among (◌∈ xs) follows xs (λ x m. m)

pub pairwise_kept : {A : Type 0} (f : A → Bool) (R S : A → A → Type 0) (xs : List A) → ((x y : A) → f x ≡ true → f y ≡ true → R x y → S x y) → Pairwise R xs → Pairwise S (keep f xs)
pairwise_kept f R S xs follows s = pairwise_among (λ x. f x ≡ true) follows (keep f xs) (λ x m. (keep_mem f xs m).1) (keep_pairwise f R xs s)

-- a sorted list under a function that carries the one relation over into the other
pub pairwise_map : {A B : Type 0} (R : A → A → Type 0) (S : B → B → Type 0) (f : A → B) (xs : List A) → ((x y : A) → R x y → S (f x) (f y)) → Pairwise R xs → Pairwise S (map f xs)
unfolding Pairwise
pairwise_map R S f [] carries s = tt
pairwise_map R S f (x ∷ xs) carries s = (all_map (S (f x)) f xs (λ y m. carries x y (s.0 y m)), pairwise_map R S f xs carries s.1)

-- a sorted list taken apart at a member: its beginning, what stands before the member, and what stands behind it
pub pairwise_at : {A : Type 0} (R : A → A → Type 0) (xs : List A) (w : A) (ys : List A) → Pairwise R (xs ++ w ∷ ys)
    → Pairwise R xs × ((x : A) → x ∈ xs → R x w) × ((y : A) → y ∈ ys → R w y)
unfolding Pairwise
pairwise_at R [] w ys s = (tt, (λ x m. absurd (Memᴰ.not-nil m)), s.0)
pairwise_at R (x ∷ xs) w ys s =
    let r = pairwise_at R xs w ys s.1 in
    (((λ y m. s.0 y (Memᴰ.append_left (w ∷ ys) m)), r.0), all_cons (λ z. R z w) (s.0 w (Memᴰ.append_right xs (Memᴰ.head refl))) r.1, r.2)

-- lengths: of the two parts that a test makes, and of what is kept
pub length_parts : {A : Type 0} (f : A → Bool) (xs : List A) → length (keep f xs) + length (keep (λ x. not (f x)) xs) ≡ length xs
unfolding keep
length_parts f [] = refl
length_parts f (x ∷ xs) = go (f x) (length_parts f xs)
  where
    go : (b : Bool) → length (keep f xs) + length (keep (λ x. not (f x)) xs) ≡ length xs
        → length (cond b (x ∷ keep f xs) (keep f xs)) + length (cond (not b) (x ∷ keep (λ x. not (f x)) xs) (keep (λ x. not (f x)) xs)) ≡ suc (length xs)
    go true h = omega arith
    go false h = omega arith

pub length_keep : {A : Type 0} (f : A → Bool) (xs : List A) → length (keep f xs) ≤ length xs
length_keep f xs = omega (arith, length_parts f xs)

-- some member passes, exactly where the test of the list says so
module _ {A : Type 0} (f : A → Bool) where
  pub any_some : (xs : List A) → any f xs ≡ true → (x : A) × (x ∈ xs) × (f x ≡ true)
  unfolding any
  any_some [] e = absurd (clash e refl)
  any_some (x ∷ xs) e = ⊎_elim (λ y. (x, Memᴰ.head refl, y)) (λ y. let r = any_some xs y in (r.0, Memᴰ.tail r.1, r.2)) (either (f x) (any f xs) e)

  pub some_any : (xs : List A) {x : A} → x ∈ xs → f x ≡ true → any f xs ≡ true
  unfolding any
  some_any [] {x = x} x4 e = elim x4 [ ]
  some_any (y ∷ xs) {x} (Memᴰ.head h) e = or_left (any f xs) (sym (ap f h) ∙ e)
  some_any (y ∷ xs) {x} (Memᴰ.tail m) e = or_right (f y) (some_any xs m e)

-- fewer are kept where a member does not pass
pub keep_shorter : {A : Type 0} (f : A → Bool) (xs : List A) (x : A) → x ∈ xs → f x ≡ false → length (keep f xs) < length xs
keep_shorter f [] x m e = absurd (Memᴰ.not-nil m)
keep_shorter f (y ∷ xs) x m e = go (f y) refl (keep_shorter f xs x)
  where
    go : (b : Bool) → f y ≡ b → (x ∈ xs → f x ≡ false → length (keep f xs) < length xs) → length (keep f (y ∷ xs)) < suc (length xs)
    go false q ih = rw (keep_no f y xs q) (omega (arith, length_keep f xs))
    go true q ih = rw (keep_yes f y xs q) (⊎_elim (λ i. absurd (true≢false (sym q ∙ sym (ap f i) ∙ e))) (λ k. omega (arith, ih k e)) (Memᴰ.cases_cons m))

-- Members of which each has a place of its own among numbers are at most as many as these.
pub no_more_than_places : {A : Type 0} (At : A → ℕ → Type 0) (xs : List A) → Pairwise (λ x y. (k : ℕ) → At x k → At y k → ⊥) xs → (ks : List ℕ)
    → ((x : A) → x ∈ xs → (k : ℕ) × (k ∈ ks) × At x k) → length xs ≤ length ks
unfolding Pairwise
no_more_than_places At [] own ks each = omega arith
no_more_than_places {A = A} At (x ∷ xs) own ks each =
    let mine = each x (Memᴰ.head refl) in
    let fewer = keep_shorter (other mine.0) ks mine.0 mine.1 (ap not (eq-eqb mine.0 mine.0 refl)) in
    omega (arith, fewer, no_more_than_places At xs own.1 (keep (other mine.0) ks) (λ y m. later mine.0 mine.2 y m (each y (Memᴰ.tail m))))
  where
    -- the places that are not a given one
    other : ℕ → ℕ → Bool
    other k n = not (eqb n k)

    later : (k : ℕ) → At x k → (y : A) → y ∈ xs → (n : ℕ) × (n ∈ ks) × At y n → (n : ℕ) × (n ∈ keep (other k) ks) × At y n
    later k here y m its = (its.0, mem_keep (other k) ks its.1 (ap not (ne_eqb its.0 k (λ e. own.0 y m k here (subst (At y) e its.2)))), its.2)

-- Where no member passes both of two tests, those that pass the one and those that pass the other are together at most all.
pub keep_either : {A : Type 0} (f g : A → Bool) (xs : List A) → ((x : A) → f x ≡ true → g x ≡ false) → length (keep f xs) + length (keep g xs) ≤ length xs
keep_either f g xs apart =
    let same = keep_keep g (λ x. not (f x)) xs ∙ keep_same _ g xs (λ x m. go (f x) (g x) (apart x)) in
    omega (arith, length_parts f xs, ap length same, length_keep g (keep (λ x. not (f x)) xs))
  where
    go : (a b : Bool) → (a ≡ true → b ≡ false) → not a && b ≡ b
    go true b h = sym (h refl)
    go false b h = refl

-- the member at a place
pub at_member : (w : List ℕ) (i : ℕ) → i < length w → get_or w i 0 ∈ w
at_member [] i h = absurd (omega arith)
at_member (p ∷ w) zero h = Memᴰ.head refl
at_member (p ∷ w) (suc i) h = Memᴰ.tail (at_member w i (omega arith))
