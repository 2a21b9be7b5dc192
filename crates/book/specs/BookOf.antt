-- The open circuits of a table, and the book of them.
-- Assumes nothing.
use Rattle.std.specs.Prelude.{List, map, ℕ}
use Rattle.common.specs.Lists.{keep, from}
use Rattle.paths.specs.CubeNetwork.{circuit_count}
use Rattle.table.specs.View.{View, shape_of}
use Rattle.circuit_path.specs.PathOf.{path_of}
use Rattle.circuit_path.specs.OpenCircuit.{is_open_in}
use Rattle.book.specs.Book.{BookCircuit}

-- Books 4: the numbers of the open circuits, rising
unfoldable pub open_numbers : View → List ℕ
open_numbers v = keep (is_open_in v) (from 1 (circuit_count (shape_of v)))

-- Books 5: all open circuits in that order, each with its path
unfoldable pub book_of : View → List BookCircuit
book_of v = map (λ (c : ℕ). record { number = c; ports = path_of v c }) (open_numbers v)
