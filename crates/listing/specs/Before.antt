-- Listing 18: the printed list on a narrow table, each port of a path by its number.
-- Assumes nothing.
use Rattle.std.specs.Prelude.{◌≢◌, cond, List, [], ◌∷◌, ◌++◌, map, ℕ, ltb, length}
use Rattle.std.proofs.Math.Option.{some}
use Rattle.common.specs.Lists.{◌∈◌}
use Rattle.cube.specs.Cube.{port_count}
use Rattle.table.specs.View.{fresh}
use Rattle.table.specs.Encode.{encode}
use Rattle.ownership.specs.Calls.{folding}
use Rattle.ownership.specs.OnTable.{table_step}
use Rattle.text.specs.Text.{dash, decimal}
use Rattle.text.specs.Lines.{lines}
use Rattle.text.specs.Row.{Field, nothing, shows, letter, path, Row, in_order, ended}
use Rattle.input_line.specs.Line.{asks}
use Rattle.listing.specs.Listing.{rows, header, input_limit, too_long}

-- ports in path order, each by its number
unfoldable pub path_numbers : List ℕ → List ℕ
path_numbers [] = []
path_numbers (p ∷ ps) = decimal p ++ path_numbers ps

unfoldable pub field_before : Field → List ℕ
field_before nothing = dash ∷ []
field_before (shows n) = decimal n
field_before (letter x) = x ∷ []
field_before (path []) = dash ∷ []
field_before (path (p ∷ ps)) = path_numbers (p ∷ ps)

unfoldable pub rows_before : List Row → List ℕ
rows_before [] = []
rows_before (r ∷ rs) = ended (map field_before (in_order r)) ++ rows_before rs

unfoldable pub printed_before : List ℕ → List ℕ
printed_before input = cond (ltb input_limit (length input)) too_long (header ++ rows_before (rows (table_step port_count) (encode (fresh 1)) 1 (lines input)))

-- an input without `M`: none of its lines asks for a fold mask
abbrev pub WithoutFolding : List (List ℕ) → Type 0
WithoutFolding ls = (l : List ℕ) → l ∈ ls → (mask : ℕ) → asks l ≢ some (folding mask)
