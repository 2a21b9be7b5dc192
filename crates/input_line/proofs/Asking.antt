-- Laws of what a line asks.
-- Assumes nothing.
use mathlib.Core.Path.{◌≡◌, refl, ap, sym, ◌∙◌}
use mathlib.Core.Logic.{◌≢◌, ⊎_elim}
use mathlib.Core.Bool.{Bool, true, false, cond}
use mathlib.Core.List.{List, [], ◌∷◌, ◌++◌, append-nil, append_assoc}
use mathlib.Core.Option.{Option, none, some}
use Prim.Native.Nat.{ℕ, suc, ◌+◌, ◌-◌, ◌≤◌, ◌<◌}
use native.Mathlib.Omega.{arith}
use native.Mathlib.Numerals.{add-one}
use lib.Dec.{eqb, lit≤}
use lib.ListN.{length, get_or, take, drop, drop_of_length-le}
use Rattle.std.proofs.lemmas.Slice.{between_to_end}
use lib.Seq.{drop-cons}
use borrow.Author.Tests.{eq-eqb, ne_eqb, le-leb, lt-leb}
use Rattle.common.proofs.Tests.{same?}
use Rattle.ownership.specs.Calls.{Call, making, blocking, unblocking, opening, closing, arming, disarming, folding}
use Rattle.text.specs.Text.{space, field_number}
use Rattle.text.specs.Lines.{on_first, cut, fields}
use Rattle.input_line.specs.Line.{letter_b, letter_c, letter_d, letter_e, letter_f, letter_m, letter_r, letter_s, in_front, numbers, numbers_of, asked, by_letter, with_numbers, of_fields, longest, asks}
use Rattle.text.proofs.Reading.{IfRead, number_small}

-- numbers that were read, in front of those of the fields that are left
unfoldable pub joined : List ℕ → Option (List ℕ) → Option (List ℕ)
joined ns none = none
joined ns (some ms) = some (ns ++ ms)

pub joined_none : (m : Option (List ℕ)) → m ≡ joined [] m
unfolding joined
joined_none none = refl
joined_none (some ms) = refl

-- one number more, put behind the others
joined_more : (ns : List ℕ) (n : ℕ) (m : Option (List ℕ)) → joined ns (in_front (some n) m) ≡ joined (ns ++ n ∷ []) m
unfolding joined in_front
joined_more ns n none = refl
joined_more ns n (some ms) = ap some (sym (append_assoc ns (n ∷ []) ms))

-- a field that is no number, one that is, and none
module _ (fs : List (List ℕ)) (ns : List ℕ) (k : ℕ) (inside : k < length fs) where
  pub numbers_none : field_number (get_or fs k []) ≡ none → joined ns (numbers (drop k fs)) ≡ none
  unfolding numbers in_front joined
  numbers_none e = rw (drop-cons fs k [] inside, e)

  pub numbers_more : (n : ℕ) → field_number (get_or fs k []) ≡ some n → joined ns (numbers (drop k fs)) ≡ joined (ns ++ n ∷ []) (numbers (drop (k + 1) fs))
  unfolding numbers
  numbers_more n e = rw (add-one k, drop-cons fs k [] inside, e) (joined_more ns n (numbers (drop (suc k) fs)))

pub numbers_last : (fs : List (List ℕ)) (ns : List ℕ) (k : ℕ) → length fs ≤ k → joined ns (numbers (drop k fs)) ≡ some ns
unfolding numbers joined
numbers_last fs ns k h = rw (drop_of_length-le fs {i = k} h) (ap some (append-nil ns))

pub unread : (x : ℕ) (m : Option (List ℕ)) → m ≡ none → with_numbers x m ≡ none
unfolding with_numbers
unread x m e = ap (with_numbers x) e

-- What holds of the count and the call of each letter, and of those of another byte, holds of every byte.
pub each_letter : (P : ℕ → (ℕ → ℕ → ℕ → ℕ → ℕ → Option Call) → Type 0) → P 1 (λ a b c d e. some (making a)) → P 2 (λ a b c d e. some (blocking a b))
    → P 2 (λ a b c d e. some (unblocking a b)) → P 5 (λ a b c d e. some (opening a b c d e)) → P 2 (λ a b c d e. some (closing a b))
    → P 2 (λ a b c d e. some (arming a b)) → P 2 (λ a b c d e. some (disarming a b)) → P 1 (λ a b c d e. some (folding a)) → P 0 (λ a b c d e. none) → (x : ℕ)
    → P (numbers_of x) (asked x)
unfolding numbers_of asked
each_letter P make block unblock opens close arm disarm fold other x =
    go (eqb x letter_f) (eqb x letter_b) (eqb x letter_e) (eqb x letter_s) (eqb x letter_c) (eqb x letter_r) (eqb x letter_d) (eqb x letter_m)
  where
    go : (p q r s t u v w : Bool) → P (cond p 1 (cond q 2 (cond r 2 (cond s 5 (cond t 2 (cond u 2 (cond v 2 (cond w 1 0))))))))
        (λ a b c d e. cond p (some (making a)) (cond q (some (blocking a b)) (cond r (some (unblocking a b)) (cond s (some (opening a b c d e))
        (cond t (some (closing a b)) (cond u (some (arming a b)) (cond v (some (disarming a b)) (cond w (some (folding a)) none))))))))
    go true q r s t u v w = make
    go false true r s t u v w = block
    go false false true s t u v w = unblock
    go false false false true t u v w = opens
    go false false false false true u v w = close
    go false false false false false true v w = arm
    go false false false false false false true w = disarm
    go false false false false false false false true = fold
    go false false false false false false false false = other

-- a letter with another count than its own
other_count : (x : ℕ) (ns : List ℕ) → length ns ≢ numbers_of x → by_letter x ns ≡ none
unfolding by_letter
other_count x ns h = rw (ne_eqb (length ns) (numbers_of x) h)

-- more than five numbers go with no letter
over_five : (x : ℕ) (ns : List ℕ) → 5 < length ns → by_letter x ns ≡ none
over_five x ns h =
    let few = each_letter (λ n f. n ≤ 5) (lit≤ tt) (lit≤ tt) (lit≤ tt) (lit≤ tt) (lit≤ tt) (lit≤ tt) (lit≤ tt) (lit≤ tt) (lit≤ tt) x in
    other_count x ns (λ e. omega arith)

-- What holds of no numbers, and stays with one more in front, holds of the numbers that fields say.
pub numbers_hold : (P : List (List ℕ) → List ℕ → Type 0) → P [] []
    → ((f : List ℕ) (fs : List (List ℕ)) (n : ℕ) (ns : List ℕ) → n < 65536 → P fs ns → P (f ∷ fs) (n ∷ ns))
    → (fs : List (List ℕ)) → IfRead (P fs) (numbers fs)
unfolding numbers in_front
numbers_hold P nil more [] = nil
numbers_hold P nil more (f ∷ fs) = go (field_number f) (numbers fs) (number_small f) (numbers_hold P nil more fs)
  where
    go : (o : Option ℕ) (m : Option (List ℕ)) → IfRead (λ n. n < 65536) o → IfRead (P fs) m → IfRead (P (f ∷ fs)) (in_front o m)
    go none m h p = tt
    go (some n) none h p = tt
    go (some n) (some ns) h p = more f fs n ns h p

pub many : (fs : List (List ℕ)) → 5 < length fs → (x : ℕ) → with_numbers x (numbers fs) ≡ none
unfolding with_numbers
many fs h x = go (numbers fs) (numbers_hold (λ fs ns. length ns ≡ length fs) refl (λ f fs n ns l e. ap suc e) fs)
  where
    go : (m : Option (List ℕ)) → IfRead (λ ns. length ns ≡ length fs) m → with_numbers x m ≡ none
    go none e = refl
    go (some ns) e = over_five x ns (omega arith)

-- A letter with the first of five numbers, as many as it has, asks for its call with these five.
pub own_count_lem : (x k : ℕ) (vs : List ℕ) → length vs ≡ 5 → k ≡ numbers_of x
    → by_letter x (take k vs) ≡ asked x (get_or vs 0 0) (get_or vs 1 0) (get_or vs 2 0) (get_or vs 3 0) (get_or vs 4 0)
unfolding by_letter
own_count_lem x k [] l e = absurd (omega arith)
own_count_lem x k (a ∷ []) l e = absurd (omega arith)
own_count_lem x k (a ∷ b ∷ []) l e = absurd (omega arith)
own_count_lem x k (a ∷ b ∷ c ∷ []) l e = absurd (omega arith)
own_count_lem x k (a ∷ b ∷ c ∷ d ∷ []) l e = absurd (omega arith)
own_count_lem x k (a ∷ b ∷ c ∷ d ∷ f ∷ []) l e = rw e (each_letter Own refl refl refl refl refl refl refl refl refl x)
  where
    Own : ℕ → (ℕ → ℕ → ℕ → ℕ → ℕ → Option Call) → Type 0
    Own n g =
        let ns = take n (a ∷ b ∷ c ∷ d ∷ f ∷ []) in
        cond (eqb (length ns) n) (g (get_or ns 0 0) (get_or ns 1 0) (get_or ns 2 0) (get_or ns 3 0) (get_or ns 4 0)) none ≡ g a b c d f
own_count_lem x k (a ∷ b ∷ c ∷ d ∷ f ∷ g ∷ vs) l e = absurd (omega arith)

-- the lines that a first look refuses
pub too_long_line : (l : List ℕ) → longest < length l → asks l ≡ none
unfolding asks
too_long_line l h = rw (lt-leb (length l) longest h)

of_line : (l : List ℕ) → length l ≤ longest → asks l ≡ of_fields (fields l)
unfolding asks
of_line l h = rw (le-leb (length l) longest h)

-- no number goes with no letter
none_counted : (x a b c d e : ℕ) → cond (eqb 0 (numbers_of x)) (asked x a b c d e) none ≡ none
none_counted x a b c d e = each_letter (λ n f. cond (eqb 0 n) (f a b c d e) none ≡ none) refl refl refl refl refl refl refl refl refl x

letter_alone : (x : ℕ) → of_fields ((x ∷ []) ∷ []) ≡ none
unfolding of_fields with_numbers numbers by_letter
letter_alone x = none_counted x 0 0 0 0 0

pub short_line : (l : List ℕ) → length l < 2 → asks l ≡ none
unfolding fields cut on_first of_fields
short_line [] h = of_line [] (omega arith)
short_line (x ∷ []) h = of_line (x ∷ []) (omega arith) ∙ go (eqb x space)
  where
    go : (b : Bool) → of_fields (cond b ([] ∷ [] ∷ []) ((x ∷ []) ∷ [])) ≡ none
    go true = refl
    go false = letter_alone x
short_line (x ∷ y ∷ l) h = absurd (omega arith)

-- a first field that is longer than a letter
long_field : (x y : ℕ) (fs : List (List ℕ)) → of_fields (on_first x (on_first y fs)) ≡ none
unfolding on_first of_fields
long_field x y [] = refl
long_field x y (f ∷ fs) = refl

pub second_byte : (l : List ℕ) → 2 ≤ length l → length l ≤ longest → get_or l 1 0 ≢ space → asks l ≡ none
unfolding fields cut on_first of_fields
second_byte [] h s e = absurd (omega arith)
second_byte (x ∷ []) h s e = absurd (omega arith)
second_byte (x ∷ y ∷ l) h s e = of_line (x ∷ y ∷ l) s ∙ go (eqb x space) (eqb y space) (ne_eqb y space e)
  where
    rest : List (List ℕ)
    rest = cut space ([] ∷ []) l

    go : (b c : Bool) → c ≡ false → of_fields (cond b ([] ∷ cond c ([] ∷ rest) (on_first y rest)) (on_first x (cond c ([] ∷ rest) (on_first y rest)))) ≡ none
    go true c k = refl
    go false c k = rw k (long_field x y rest)

either_none : (b : Bool) → ◌≡◌ {A = Option Call} (cond b none none) none
either_none true = refl
either_none false = refl

-- a byte that is no call letter, whatever the count of numbers behind it
pub other_letter : (x k a b c d e : ℕ) → x ≢ letter_f → x ≢ letter_b → x ≢ letter_e → x ≢ letter_s → x ≢ letter_c → x ≢ letter_r → x ≢ letter_d → x ≢ letter_m
    → cond (eqb k (numbers_of x)) (asked x a b c d e) none ≡ none
unfolding numbers_of asked
other_letter x k a b c d e f g h i j l m n =
    rw (ne_eqb x letter_f f, ne_eqb x letter_b g, ne_eqb x letter_e h, ne_eqb x letter_s i, ne_eqb x letter_c j, ne_eqb x letter_r l, ne_eqb x letter_d m, ne_eqb x letter_m n)
    (either_none (eqb k 0))

-- as a space is
space_asks : (m : Option (List ℕ)) → with_numbers space m ≡ none
unfolding with_numbers by_letter numbers_of asked
space_asks none = refl
space_asks (some ns) = either_none (eqb (length ns) 0)

-- a byte, a space, and the rest, which the code reads as a part of the line
letter_rest : (l : List ℕ) → 2 ≤ length l → length l ≤ longest → get_or l 1 0 ≡ space → asks l ≡ with_numbers (get_or l 0 0) (numbers (fields (drop 2 l)))
unfolding fields cut on_first of_fields
letter_rest [] h s e = absurd (omega arith)
letter_rest (x ∷ []) h s e = absurd (omega arith)
letter_rest (x ∷ y ∷ l) h s e =
    of_line (x ∷ y ∷ l) s
    ∙ ⊎_elim
    (λ p. rw (eq-eqb x space p) (sym (ap (λ b. with_numbers b (numbers (cut space ([] ∷ []) l))) p ∙ space_asks (numbers (cut space ([] ∷ []) l)))))
    (λ p. rw (ne_eqb x space p, eq-eqb y space e)) (same? x space)

pub letter_line : (l : List ℕ) → 2 ≤ length l → length l ≤ longest → get_or l 1 0 ≡ space
    → asks l ≡ with_numbers (get_or l 0 0) (numbers (fields (take (length l - 2) (drop 2 l))))
letter_line l h s e =
    letter_rest l h s e
    ∙ ap (λ (r : List ℕ). with_numbers (get_or l 0 0) (numbers (fields r))) (sym (between_to_end l 2 (length l) (omega arith)))
