-- Laws of reading a number.
-- Assumes nothing.
use mathlib.Core.Path.{◌≡◌, refl, sym, subst}
use mathlib.Core.Bool.{Bool, true, false, cond, not, ◌&&◌, and-true, and-false}
use mathlib.Core.List.{List, [], ◌∷◌}
use mathlib.Core.Option.{Option, none, some}
use mathlib.Core.Logic.{◌≢◌, ⊎_elim}
use Rattle.std.specs.Prelude.{Some, None}
use Rattle.common.proofs.Tests.{below_or}
use Prim.Native.Nat.{ℕ, suc, ◌+◌, ◌-◌, ◌*◌, ◌≤◌, ◌<◌}
use native.Mathlib.Omega.{arith}
use native.Mathlib.Numerals.{add-one}
use lib.Dec.{leb}
use lib.ListN.{length, get_or, drop, drop_of_length-le}
use lib.Seq.{drop-cons}
use borrow.Author.Tests.{le-leb, lt-leb, leb-true, eq-eqb, ne_eqb}
use Rattle.text.specs.Text.{is_digit, all_digits, value, leading_zero, largest_number, field_number}
use Rattle.text.specs.Written.{or_none, said}

-- more digits never say less
value_grows : (xs : List ℕ) (n : ℕ) → n ≤ value n xs
unfolding value
value_grows [] n = omega arith
value_grows (x ∷ xs) n = let p = value_grows xs (10 * n + (x - 48)) in omega arith

-- what digits say is more than can be read
said_over : (n : ℕ) (xs : List ℕ) → largest_number < value n xs → said n xs ≡ None
unfolding said
said_over n xs h = rw (lt-leb (value n xs) largest_number h, and-false (all_digits xs))

said_digit : (n x : ℕ) (xs : List ℕ) → 48 ≤ x → x ≤ 57 → said n (x ∷ xs) ≡ said (10 * n + (x - 48)) xs
unfolding said all_digits value
said_digit n x xs h l = rw (le-leb 48 x h, le-leb x 57 l)

-- a byte that is no digit
said_other : (n x : ℕ) (xs : List ℕ) → is_digit x ≡ false → said n (x ∷ xs) ≡ None
unfolding said all_digits
said_other n x xs e = rw e

-- What the digits of a field from place i on say, behind others that say n.
module _ (f : List ℕ) (n i : ℕ) where
  pub field_end : length f ≤ i → n ≤ largest_number → said n (drop i f) ≡ Some n
  unfolding said all_digits value
  field_end h l = rw (drop_of_length-le f {i = i} h, le-leb n largest_number l)

  module _ (inside : i < length f) where
    pub field_digit : 48 ≤ get_or f i 0 → get_or f i 0 ≤ 57 → said (10 * n + (get_or f i 0 - 48)) (drop (i + 1) f) ≡ said n (drop i f)
    field_digit h l = rw (add-one i, drop-cons f i 0 inside) (sym (said_digit n (get_or f i 0) (drop (suc i) f) h l))

    pub field_many : largest_number < 10 * n + (get_or f i 0 - 48) → None ≡ said n (drop i f)
    unfolding value
    field_many h =
        rw (drop-cons f i 0 inside)
        (sym (said_over n (get_or f i 0 ∷ drop (suc i) f) (let g = value_grows (drop (suc i) f) (10 * n + (get_or f i 0 - 48)) in omega arith)))

    pub field_other : ¬ ((48 ≤ get_or f i 0) × (get_or f i 0 ≤ 57)) → None ≡ said n (drop i f)
    field_other h = rw (drop-cons f i 0 inside) (sym (said_other n (get_or f i 0) (drop (suc i) f) (other (get_or f i 0) h)))
      where
        other : (x : ℕ) → ¬ ((48 ≤ x) × (x ≤ 57)) → is_digit x ≡ false
        other x h =
            ⊎_elim (λ l. rw (lt-leb 48 x l))
            (λ l. rw (lt-leb x 57 (grind (arith, h))) (and-false (leb 48 x))) (below_or 48 x)

-- a field that is empty, or begins with a zero that does not stand alone, is no number; another is what its digits say
pub read_empty : (f : List ℕ) → length f < 1 → None ≡ or_none (field_number f)
unfolding or_none field_number
read_empty [] h = refl
read_empty (x ∷ xs) h = absurd (omega arith)

pub read_zero : (f : List ℕ) → 2 ≤ length f → get_or f 0 0 ≡ 48 → None ≡ or_none (field_number f)
unfolding or_none field_number leading_zero
read_zero [] h e = absurd (omega arith)
read_zero (x ∷ []) h e = absurd (omega arith)
read_zero (x ∷ y ∷ xs) h e = rw (eq-eqb x 48 e, and-false (all_digits (x ∷ y ∷ xs)))

plain : (x : ℕ) (xs : List ℕ) → leading_zero (x ∷ xs) ≡ false → said 0 (x ∷ xs) ≡ or_none (field_number (x ∷ xs))
unfolding or_none field_number said
plain x xs e = rw (e, and-true (all_digits (x ∷ xs))) (go (all_digits (x ∷ xs) && leb (value 0 (x ∷ xs)) largest_number))
  where
    go : (b : Bool) → cond b (Some (value 0 (x ∷ xs))) None ≡ or_none (cond b (some (value 0 (x ∷ xs))) none)
    go true = refl
    go false = refl

pub read_alone : (f : List ℕ) → 1 ≤ length f → length f < 2 → get_or f 0 0 ≡ 48 → Some 0 ≡ or_none (field_number f)
unfolding leading_zero said all_digits value
read_alone [] h l e = absurd (omega arith)
read_alone (x ∷ []) h l e = subst (λ y. Some 0 ≡ or_none (field_number (y ∷ []))) (sym e) (plain 48 [] refl)
read_alone (x ∷ y ∷ xs) h l e = absurd (omega arith)

pub read_more : (f : List ℕ) → 1 ≤ length f → get_or f 0 0 ≢ 48 → said 0 f ≡ or_none (field_number f)
unfolding leading_zero
read_more [] h e = absurd (omega arith)
read_more (x ∷ []) h e = plain x [] refl
read_more (x ∷ y ∷ xs) h e = plain x (y ∷ xs) (ne_eqb x 48 e)

-- what holds of what was read, where something was
abbrev pub IfRead : {A : Type 0} → (A → Type 0) → Option A → Type 0
IfRead P none = Unit
IfRead P (some a) = P a

-- what is read is at most 65,535
pub number_small : (f : List ℕ) → IfRead (λ n. n < 65536) (field_number f)
unfolding field_number
number_small [] = tt
number_small (x ∷ xs) = go (all_digits (x ∷ xs) && not (leading_zero (x ∷ xs))) (leb (value 0 (x ∷ xs)) largest_number) (leb-true (value 0 (x ∷ xs)) largest_number)
  where
    go : (b c : Bool) → (c ≡ true → value 0 (x ∷ xs) ≤ largest_number) → IfRead (λ n. n < 65536) (cond (b && c) (some (value 0 (x ∷ xs))) none)
    go true true h = let l = h refl in omega arith
    go true false h = tt
    go false c h = tt

-- a number that was read is the field's, and where none was read the field says none
pub read_some : (f : List ℕ) (n : ℕ) → Some n ≡ or_none (field_number f) → field_number f ≡ some n
unfolding or_none
read_some f n = go (field_number f)
  where
    go : (o : Option ℕ) → Some n ≡ or_none o → o ≡ some n
    go none e = cc
    go (some m) e = cc

pub read_not : (f : List ℕ) → None ≡ or_none (field_number f) → field_number f ≡ none
unfolding or_none
read_not f = go (field_number f)
  where
    go : (o : Option ℕ) → None ≡ or_none o → o ≡ none
    go none e = refl
    go (some m) e = cc
