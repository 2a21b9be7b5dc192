-- The bytes that separate texts, and numbers as decimal digits, written and read.
-- Assumes nothing.
use Rattle.std.specs.Prelude.{Bool, true, false, cond, not, ◌&&◌, List, [], ◌∷◌, ◌++◌, ℕ, zero, suc, ◌+◌, ◌-◌, ◌*◌, ◌/◌, ◌%◌, eqb, ltb, leb}
use Rattle.std.proofs.Math.Option.{Option, none, some}

abbrev pub newline : ℕ
newline = 10

abbrev pub space : ℕ
space = 32

-- Listing 11: `-` for a field that shows nothing
abbrev pub dash : ℕ
dash = 45

-- the byte of a digit below ten
abbrev pub digit : ℕ → ℕ
digit d = 48 + d

-- The decimal digits of n, the highest first. The first argument only has to be large enough; n itself is.
unfoldable pub digits : ℕ → ℕ → List ℕ
digits zero n = digit n ∷ []
digits (suc k) n = let more = digits k (n / 10) ++ (digit (n % 10) ∷ []) in cond (ltb n 10) (digit n ∷ []) more

unfoldable pub decimal : ℕ → List ℕ
decimal n = digits n n

-- Listing 7: decimal digits alone, with no sign
abbrev pub is_digit : ℕ → Bool
is_digit x = leb 48 x && leb x 57

unfoldable pub all_digits : List ℕ → Bool
all_digits [] = true
all_digits (x ∷ xs) = is_digit x && all_digits xs

-- what digits say, behind others that say n
unfoldable pub value : ℕ → List ℕ → ℕ
value n [] = n
value n (x ∷ xs) = value (10 * n + (x - 48)) xs

-- Listing 7: no leading zero: a zero stands alone.
unfoldable pub leading_zero : List ℕ → Bool
leading_zero [] = false
leading_zero (x ∷ []) = false
leading_zero (x ∷ y ∷ xs) = eqb x 48

-- Listing 7: 0 to 65,535
abbrev pub largest_number : ℕ
largest_number = 65535

-- Listing 7: the number that a field says, where it is one. Listing 6: an empty field says none.
unfoldable pub field_number : List ℕ → Option ℕ
field_number [] = none
field_number (x ∷ xs) =
    cond (all_digits (x ∷ xs) && not (leading_zero (x ∷ xs)) && leb (value 0 (x ∷ xs)) largest_number) (some (value 0 (x ∷ xs))) none
