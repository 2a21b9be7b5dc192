-- Texts that have no separator in them.
-- Assumes nothing.
use Rattle.std.specs.Prelude.{List, [], ◌∷◌, ℕ, ◌<◌}

-- every byte of a text is above b: above 32, it has no space and no newline
unfoldable pub Above : ℕ → List ℕ → Type 0
Above b [] = Unit
Above b (x ∷ xs) = (b < x) × Above b xs

-- and so of each text of a list
unfoldable pub AllAbove : ℕ → List (List ℕ) → Type 0
AllAbove b [] = Unit
AllAbove b (f ∷ fs) = Above b f × AllAbove b fs
