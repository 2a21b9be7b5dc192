-- Tests: one that is known, two joined, and lists of them, of which the first that applies is the answer.
-- Assumes nothing.
use mathlib.Core.Path.{◌≡◌, refl, ap, sym, ◌∙◌}
use mathlib.Core.Logic.{◌⊎◌, inl, inr, ◌≢◌}
use mathlib.Core.Bool.{Bool, true, false, cond, not, ◌&&◌, ◌||◌, and-eq-true_iff, or-true, true≢false}
use mathlib.Core.List.{List, [], ◌∷◌, ◌++◌}
use Prim.Native.Nat.{ℕ, ◌≤◌, ◌<◌}
use lib.Dec.{eqb, ltb}
use borrow.Author.Tests.{not-true, eqb-true, eqb-false, ltb-true, ltb-false}
use Rattle.common.specs.Decides.{Decides}
use Rattle.common.specs.Tests.{Test, test, refusal}

-- two numbers are the same or not
pub same? : (a b : ℕ) → (a ≡ b) ⊎ (a ≢ b)
same? a b = go (eqb a b) refl
  where
    go : (x : Bool) → eqb a b ≡ x → (a ≡ b) ⊎ (a ≢ b)
    go true e = inl (eqb-true a b e)
    go false e = inr (eqb-false a b e)

-- a number is below another or not
pub below_or : (k y : ℕ) → (y < k) ⊎ (k ≤ y)
below_or k y = go (ltb y k) refl
  where
    go : (x : Bool) → ltb y k ≡ x → (y < k) ⊎ (k ≤ y)
    go true e = inl (ltb-true y k e)
    go false e = inr (ltb-false y k e)

-- a test is not both
pub clash : {b : Bool} → b ≡ true → b ≡ false → ⊥
clash e f = true≢false (sym e ∙ f)

pub is_false : (b : Bool) → (b ≡ true → ⊥) → b ≡ false
is_false true h = absurd (h refl)
is_false false h = refl

-- tests joined
pub both : (a b : Bool) → a && b ≡ true → (a ≡ true) × (b ≡ true)
both a b e = (and-eq-true_iff a b).0 e

pub and : {a b : Bool} → a ≡ true → b ≡ true → a && b ≡ true
and {a} {b} e f = (and-eq-true_iff a b).1 (e, f)

pub either : (a b : Bool) → a || b ≡ true → (a ≡ true) ⊎ (b ≡ true)
either true b e = inl e
either false b e = inr e

pub or_left : {a : Bool} (b : Bool) → a ≡ true → a || b ≡ true
or_left b e = ap (◌|| b) e

pub or_right : (a : Bool) {b : Bool} → b ≡ true → a || b ≡ true
or_right a e = ap (a ||◌) e ∙ or-true a

-- neither of two tests applies
pub neither : (a b : Bool) → a || b ≡ false → (a ≡ false) × (b ≡ false)
neither true b e = absurd (true≢false e)
neither false b e = (refl, e)

-- two bounds tested together
pub both_below : {n a p b : ℕ} → ltb n a && ltb p b ≡ true → (n < a) × (p < b)
both_below {n} {a} {p} {b} e = let r = both (ltb n a) (ltb p b) e in (ltb-true n a r.0, ltb-true p b r.1)

-- an answer that is known decides
pub decided_no : {P : Type 0} → (P → ⊥) → Decides P false
decided_no h = record { holds = λ e. absurd (true≢false (sym e)); fails = λ e. h }

pub refused : {b : Bool} (n : ℕ) (ts : List Test) → b ≡ true → refusal (test b n ∷ ts) ≡ n
unfolding refusal
refused n ts e = rw e

pub passed : {b : Bool} (n : ℕ) (ts : List Test) → b ≡ false → refusal (test b n ∷ ts) ≡ refusal ts
unfolding refusal
passed n ts e = rw e

pub accepted : refusal [] ≡ 0
unfolding refusal
accepted = refl

-- An answer comes only where no test before it with another number applies: of one test and those behind it,
pub other_passed : (b : Bool) (n m : ℕ) (ts : List Test) → n ≢ m → refusal (test b n ∷ ts) ≡ m → (b ≡ false) × (refusal ts ≡ m)
unfolding refusal
other_passed true n m ts h e = absurd (h e)
other_passed false n m ts h e = (refl, e)

-- so for an answer of 0,
pub first_passed : (b : Bool) (n : ℕ) (ts : List Test) → n ≢ 0 → refusal (test b n ∷ ts) ≡ 0 → (b ≡ false) × (refusal ts ≡ 0)
first_passed b n = other_passed b n 0

-- and of two lists one behind the other, where every test of the first has a number that is not 0. No test of a list has the number n:
unfoldable pub Avoids : ℕ → List Test → Type 0
Avoids n [] = Unit
Avoids n (x ∷ xs) = (x.number ≢ n) × Avoids n xs

pub refusal_after : (xs ys : List Test) → Avoids 0 xs → refusal xs ≡ 0 → refusal (xs ++ ys) ≡ refusal ys
unfolding Avoids
refusal_after [] ys h e = refl
refusal_after (x ∷ xs) ys h e =
    let r = first_passed x.when x.number xs h.0 e in
    passed x.number (xs ++ ys) r.0 ∙ refusal_after xs ys h.1 r.1

pub refusal_both : (xs ys : List Test) → Avoids 0 xs → refusal (xs ++ ys) ≡ 0 → (refusal xs ≡ 0) × (refusal ys ≡ 0)
unfolding Avoids
refusal_both [] ys h e = (accepted, e)
refusal_both (x ∷ xs) ys h e =
    let r = first_passed x.when x.number (xs ++ ys) h.0 e in
    let s = refusal_both xs ys h.1 r.1 in
    (passed x.number xs r.0 ∙ s.0, s.1)

-- Where one of the first list applies, those behind it do not matter.
pub refusal_before : (xs ys : List Test) → refusal xs ≢ 0 → refusal (xs ++ ys) ≡ refusal xs
unfolding refusal
refusal_before [] ys f = absurd (f refl)
refusal_before (x ∷ xs) ys f = go x.when refl (refusal_before xs ys)
  where
    go : (w : Bool) → x.when ≡ w → (refusal xs ≢ 0 → refusal (xs ++ ys) ≡ refusal xs) → cond x.when x.number (refusal (xs ++ ys)) ≡ cond x.when x.number (refusal xs)
    go true e more = rw e
    go false e more = rw e (more (λ z. f (rw e z)))

-- no test of a list has a number, by one computed test
unfoldable pub avoids : ℕ → List Test → Bool
avoids n [] = true
avoids n (x ∷ xs) = not (eqb x.number n) && avoids n xs

pub avoiding : (n : ℕ) (xs : List Test) → avoids n xs ≡ true → Avoids n xs
unfolding avoids Avoids
avoiding n [] e = tt
avoiding n (x ∷ xs) e = let r = both (not (eqb x.number n)) _ e in (eqb-false _ n (not-true _ r.0), avoiding n xs r.1)

-- A list of which no test has a number never answers it.
pub never_answered : (n : ℕ) (xs : List Test) → Avoids n xs → n ≢ 0 → refusal xs ≢ n
unfolding Avoids refusal
never_answered n [] h f e = f (sym e)
never_answered n (x ∷ xs) h f e = go x.when refl (never_answered n xs h.1 f)
  where
    go : (w : Bool) → x.when ≡ w → refusal xs ≢ n → ⊥
    go true q more = h.0 (sym (refused x.number xs q) ∙ e)
    go false q more = more (sym (passed x.number xs q) ∙ e)
