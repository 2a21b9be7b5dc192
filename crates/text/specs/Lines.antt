-- The lines of an input, and the fields of a line.
-- Assumes nothing.
use Rattle.std.specs.Prelude.{cond, List, [], ◌∷◌, ℕ, eqb}
use Rattle.text.specs.Text.{newline, space}

-- a byte in front of the first of some parts
unfoldable pub on_first : ℕ → List (List ℕ) → List (List ℕ)
on_first x [] = (x ∷ []) ∷ []
on_first x (p ∷ ps) = (x ∷ p) ∷ ps

-- the parts of a text between the places where a byte stands; `end` are the parts of the empty text
unfoldable pub cut : ℕ → List (List ℕ) → List ℕ → List (List ℕ)
cut d end [] = end
cut d end (x ∷ xs) = cond (eqb x d) ([] ∷ cut d end xs) (on_first x (cut d end xs))

-- Listing 4: a newline ends a line, and the last one may be absent. An empty input has no line.
unfoldable pub lines : List ℕ → List (List ℕ)
lines = cut newline []

-- Listing 6: each space ends a field and begins the next.
unfoldable pub fields : List ℕ → List (List ℕ)
fields = cut space ([] ∷ [])
