-- What an input line asks for.
-- Assumes nothing.
use Rattle.std.specs.Prelude.{cond, List, [], ◌∷◌, ℕ, eqb, leb, length, get_or}
use Rattle.std.proofs.Math.Option.{Option, none, some}
use Rattle.ownership.specs.Calls.{Call, making, blocking, unblocking, opening, closing, arming, disarming, folding}
use Rattle.text.specs.Text.{field_number}
use Rattle.text.specs.Lines.{fields}

-- the call letters
abbrev pub letter_b : ℕ
letter_b = 66

abbrev pub letter_c : ℕ
letter_c = 67

abbrev pub letter_d : ℕ
letter_d = 68

abbrev pub letter_e : ℕ
letter_e = 69

abbrev pub letter_f : ℕ
letter_f = 70

abbrev pub letter_m : ℕ
letter_m = 77

abbrev pub letter_r : ℕ
letter_r = 82

abbrev pub letter_s : ℕ
letter_s = 83

-- the numbers that fields say, where each of them is one
unfoldable pub in_front : Option ℕ → Option (List ℕ) → Option (List ℕ)
in_front none ns = none
in_front (some n) none = none
in_front (some n) (some ns) = some (n ∷ ns)

unfoldable pub numbers : List (List ℕ) → Option (List ℕ)
numbers [] = some []
numbers (f ∷ fs) = in_front (field_number f) (numbers fs)

-- Listing 8: how many numbers stand behind a call letter, 0 behind another byte; and the call that a letter asks for, with as many of five numbers as it has
unfoldable pub numbers_of : ℕ → ℕ
numbers_of x =
    cond (eqb x letter_f) 1
    (cond (eqb x letter_b) 2
    (cond (eqb x letter_e) 2
    (cond (eqb x letter_s) 5
    (cond (eqb x letter_c) 2
    (cond (eqb x letter_r) 2
    (cond (eqb x letter_d) 2
    (cond (eqb x letter_m) 1 0)))))))

unfoldable pub asked : ℕ → ℕ → ℕ → ℕ → ℕ → ℕ → Option Call
asked x a b c d e =
    cond (eqb x letter_f) (some (making a))
    (cond (eqb x letter_b) (some (blocking a b))
    (cond (eqb x letter_e) (some (unblocking a b))
    (cond (eqb x letter_s) (some (opening a b c d e))
    (cond (eqb x letter_c) (some (closing a b))
    (cond (eqb x letter_r) (some (arming a b))
    (cond (eqb x letter_d) (some (disarming a b))
    (cond (eqb x letter_m) (some (folding a)) none)))))))

-- a letter and the numbers behind it, where they are as many as it has
unfoldable pub by_letter : ℕ → List ℕ → Option Call
by_letter x ns = cond (eqb (length ns) (numbers_of x)) (asked x (get_or ns 0 0) (get_or ns 1 0) (get_or ns 2 0) (get_or ns 3 0) (get_or ns 4 0)) none

-- a letter that stands alone in its field, and the numbers behind it
unfoldable pub with_numbers : ℕ → Option (List ℕ) → Option Call
with_numbers x none = none
with_numbers x (some ns) = by_letter x ns

unfoldable pub of_fields : List (List ℕ) → Option Call
of_fields [] = none
of_fields ([] ∷ fs) = none
of_fields ((x ∷ []) ∷ fs) = with_numbers x (numbers fs)
of_fields ((x ∷ y ∷ xs) ∷ fs) = none

-- Listing 5: a readable line has 40 bytes at most.
abbrev pub longest : ℕ
longest = 40

-- Listing 5, Refusals 20: the call that a line asks for, where it can be read
unfoldable pub asks : List ℕ → Option Call
asks l = cond (leb (length l) longest) (of_fields (fields l)) none
