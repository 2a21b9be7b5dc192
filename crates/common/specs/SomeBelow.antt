-- How the contracts of inner functions take a number for an option. Nobody has to believe it.
-- Assumes nothing.
use Rattle.std.specs.Prelude.{cond, ℕ, ltb, Option, Some, None}

-- k where it is below n; else nothing, which is how a number stands for "none" in tables and answers
abbrev pub some_below : ℕ → ℕ → Option ℕ
some_below n k = cond (ltb k n) (Some k) None
