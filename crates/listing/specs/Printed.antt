-- What the listing function does to a lent output.
-- Assumes nothing.
use Rattle.std.specs.Prelude.{Bool, true, false, cond, List, ◌++◌, ℕ, ◌+◌, ◌*◌, ltb, length, drop, Ok, Err}
use Rattle.std.specs.declared.result.Result.{Result}
use Rattle.listing.specs.declared.whole.TooShort.{TooShort}
use Rattle.listing.specs.Listing.{printed}

-- Listing 20: the size of an output that is enough for every input: the header, and 24 bytes for each of 60,001 bytes, one more than the longest input has
abbrev pub output_bytes : ℕ
output_bytes = 51 + 24 * 60001

-- what the listing function answers, and the bytes of its output afterwards
pub record Filled : Type 0 where
  pub short : Bool
  pub written : ℕ
  pub output : List ℕ

-- Listing 20: what the function's result and the bytes of its output afterwards come to; nothing is written where the output is too short
abbrev pub filled : Result ℕ TooShort → List ℕ → Filled
filled (Ok n) output = record { short = false; written = n; output = output }
filled (Err e) output = record { short = true; written = 0; output = output }

unfoldable pub lists : List ℕ → List ℕ → Filled
lists input output =
    cond (ltb (length output) output_bytes) (record { short = true; written = 0; output = output })
    (record { short = false; written = length (printed input); output = printed input ++ drop (length (printed input)) output })
