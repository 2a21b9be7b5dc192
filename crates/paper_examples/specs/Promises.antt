-- Examples 1 to 8 as one claim (Forms 14). It is the contract of a function of this crate (src/lib.rt), and is proved with it.
-- Assumes nothing.
use Rattle.std.specs.Prelude.{◌≡◌, List, map, ℕ, length}
use Rattle.cube.specs.Cube.{port_count}
use Rattle.layout.specs.Layout.{table_length}
use Rattle.ownership.specs.Agrees.{table_results}
use Rattle.paper_examples.specs.Examples.{Input, calls, read, write, shown, result, inputs, results}

-- what an input comes to where its calls are made on a table
abbrev pub result_on : List ℕ → Input → List (List (List ℕ))
result_on b (calls cs) = map shown (table_results port_count b cs)
result_on b (read w) = result (read w)
result_on b (write c k) = result (write c k)

-- From any 8,705 bytes the inputs come to the results.
abbrev pub ExamplesHold : Type 0
ExamplesHold = (b : List ℕ) → length b ≡ table_length → map (result_on b) inputs ≡ results
