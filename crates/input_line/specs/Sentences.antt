-- What the theorems about an input line say.
-- Assumes nothing.
use Rattle.std.specs.Prelude.{List, [], ◌∷◌, map, ℕ, ◌≤◌}
use Rattle.text.specs.Text.{decimal, largest_number}
use Rattle.text.specs.Row.{spaced}

-- the input line of a call letter and the numbers behind it
unfoldable pub call_line : ℕ → List ℕ → List ℕ
call_line x ns = spaced ((x ∷ []) ∷ map decimal ns)

-- Listing 7: numbers that a line can give, 0 to 65,535
unfoldable pub CanBeGiven : List ℕ → Type 0
CanBeGiven [] = Unit
CanBeGiven (n ∷ ns) = (n ≤ largest_number) × CanBeGiven ns
