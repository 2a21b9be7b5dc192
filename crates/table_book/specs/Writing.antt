-- What the functions that write the book of a table ask and answer. Nobody has to believe these: what a book is, book/Book and BookOf say (Books 1 to 6).
-- Assumes nothing.
use Rattle.std.specs.Prelude.{◌≡◌, ◌*◌, List, map, ◌++◌, ℕ, not, eqb}
use Rattle.cube.specs.Cube.{channels, cube_nodes}
use Rattle.common.specs.Lists.{keep, from}
use Rattle.layout.specs.Layout.{dimension_at, entry_count}
use Rattle.table.specs.TableContracts.{place_count}
use Rattle.table.specs.View.{View}
use Rattle.circuit_path.specs.PathOf.{path_of}
use Rattle.circuit_path.specs.OpenCircuit.{is_open_in}
use Rattle.book.specs.Book.{BookCircuit, word_bytes}

-- the largest circuit number of a table
abbrev pub last_of : List ℕ → ℕ
last_of b = channels * cube_nodes (dimension_at b)

-- how many links, or receive channels, of rows of q are held
unfoldable pub held_count : ℕ → (ℕ → ℕ → ℕ) → ℕ
held_count q owner = place_count q (λ n k. not (eqb (owner n k) 0)) (entry_count q)

-- nobody holds a link out of a node
abbrev pub HoldsNone : View → ℕ → Type 0
HoldsNone v n = (p : ℕ) → v.owner n p ≡ 0

-- the part of a table's book that has k numbers from c on
unfoldable pub book_from : View → ℕ → ℕ → List BookCircuit
book_from v c k = map (λ (n : ℕ). record { number = n; ports = path_of v n }) (keep (is_open_in v) (from c k))

-- the circuit of one number, if it is open
abbrev pub circuit_if : View → ℕ → List BookCircuit
circuit_if v c = book_from v c 1

-- Books 3: the bytes of a line of the index
abbrev pub line_bytes : (number offset hops : ℕ) → List ℕ
line_bytes number offset hops = word_bytes number ++ word_bytes offset ++ word_bytes hops
