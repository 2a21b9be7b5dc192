-- How a call's tests decide its number.
-- Assumes nothing.
use Rattle.std.specs.Prelude.{Bool, cond, List, [], ◌∷◌, ℕ}

-- a test: when it applies, and its number
pub record Test : Type 0 where
  pub when : Bool
  pub number : ℕ

abbrev pub test : Bool → ℕ → Test
test b n = record { when = b; number = n }

-- Calls 4: the first test that applies decides the number. Refusals 0: 0 where none does.
unfoldable pub refusal : List Test → ℕ
refusal [] = 0
refusal (t ∷ ts) = cond t.when t.number (refusal ts)
