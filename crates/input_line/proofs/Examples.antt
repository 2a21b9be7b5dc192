-- What a line of each letter asks for, from its bytes, computed.
-- Assumes nothing.
use Rattle.std.specs.Prelude.{◌≡◌, refl, [], ◌∷◌, map}
use Rattle.std.proofs.Math.Option.{some}
use Rattle.ownership.specs.Calls.{making, blocking, unblocking, opening, closing, arming, disarming, folding}
use Rattle.text.specs.Text.{all_digits, value, leading_zero, field_number}
use Rattle.text.specs.Lines.{on_first, cut, fields}
use Rattle.input_line.specs.Line.{in_front, numbers, numbers_of, asked, by_letter, with_numbers, of_fields, asks}

-- Listing 8: a line of each letter, with a number of its own in each place
letters_asked :
    map asks
    -- F 10
    ((70 ∷ 32 ∷ 49 ∷ 48 ∷ [])
    -- B 11 12
    ∷ (66 ∷ 32 ∷ 49 ∷ 49 ∷ 32 ∷ 49 ∷ 50 ∷ [])
    -- E 13 14
    ∷ (69 ∷ 32 ∷ 49 ∷ 51 ∷ 32 ∷ 49 ∷ 52 ∷ [])
    -- S 1 2 3 4 5
    ∷ (83 ∷ 32 ∷ 49 ∷ 32 ∷ 50 ∷ 32 ∷ 51 ∷ 32 ∷ 52 ∷ 32 ∷ 53 ∷ [])
    -- C 15 16
    ∷ (67 ∷ 32 ∷ 49 ∷ 53 ∷ 32 ∷ 49 ∷ 54 ∷ [])
    -- R 17 18
    ∷ (82 ∷ 32 ∷ 49 ∷ 55 ∷ 32 ∷ 49 ∷ 56 ∷ [])
    -- D 19 20
    ∷ (68 ∷ 32 ∷ 49 ∷ 57 ∷ 32 ∷ 50 ∷ 48 ∷ [])
    -- M 21
    ∷ (77 ∷ 32 ∷ 50 ∷ 49 ∷ [])
    ∷ [])
    ≡ some (making 10) ∷ some (blocking 11 12) ∷ some (unblocking 13 14) ∷ some (opening 1 2 3 4 5) ∷ some (closing 15 16) ∷ some (arming 17 18)
    ∷ some (disarming 19 20) ∷ some (folding 21) ∷ []
unfolding all_digits value leading_zero field_number on_first cut fields in_front numbers numbers_of asked by_letter with_numbers of_fields asks
letters_asked = refl
