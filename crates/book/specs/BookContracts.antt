-- What the functions of this crate ask and answer. Nobody has to believe these: the contract of a lookup is over Lookup.
-- Assumes nothing.
use Rattle.std.specs.Prelude.{◌≡◌, true, false, ℕ, List, ◌/◌, length, Option, None, Some, Result}
use Rattle.std.specs.Result.{result_unwrap_or}
use Rattle.common.specs.declared.refusal.Refusal.{Refusal}
use Rattle.common.specs.Refusals.{answer_of}
use Rattle.book.specs.Lookup.{IndexLine, index_lines, is_listed, listed_line, LookupResult}
use Rattle.book.specs.declared.BookLine.{BookLine}
use Rattle.book.specs.declared.IndexLines.{IndexLines}

-- a line as the code has it
abbrev pub line_is : BookLine → IndexLine
line_is x = record { number = x.number; offset = x.offset; hops = x.hops }

-- the lines of as many bytes as there are, and those that are left to read
unfoldable pub lines_in : List ℕ → List IndexLine
lines_in b = index_lines (length b / 6) b

abbrev pub lines_left : IndexLines → List IndexLine
lines_left s = lines_in s.index.now

-- the line of a circuit where lines have one
abbrev pub line_if : ℕ → List IndexLine → Option BookLine → Type 0
line_if c xs None = is_listed c xs ≡ false
line_if c xs (Some x) = (is_listed c xs ≡ true) × (line_is x ≡ listed_line c xs)

-- what a lookup answers: the hops, or the refusal; with the bytes of its buffer afterwards
abbrev pub lookup_result : Result ℕ Refusal → List ℕ → LookupResult
lookup_result answer buffer = record { number = answer_of answer; hops = result_unwrap_or answer 0; buffer = buffer }
