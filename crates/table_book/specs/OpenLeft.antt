-- What an iterator over the open circuits of a table has left, and gives: it has the bytes, the numbers left of one node, and the nodes above it.
-- Assumes nothing.
use Rattle.std.specs.Prelude.{◌≡◌, true, List, [], ◌∷◌, ℕ, ◌+◌, ◌-◌, ◌*◌, ◌≤◌, ◌<◌, Option, MatchOption, length}
use Rattle.std.specs.declared.ops.Range.{Range}
use Rattle.cube.specs.Cube.{largest_dimension, channels, cube_nodes}
use Rattle.cube.specs.declared.kinds.Circuit.{Circuit}
use Rattle.layout.specs.Layout.{dimension_at}
use Rattle.table.specs.View.{view}
use Rattle.circuit_path.specs.PathOf.{path_of}
use Rattle.circuit_path.specs.OpenCircuit.{is_open_in}
use Rattle.circuit_path.specs.Follow.{HasSourceIn}
use Rattle.book.specs.Book.{BookCircuit}
use Rattle.table_book.specs.Writing.{book_from, last_of}

-- what holds of it all the time, in a table of so many bytes
pub record LeftIn (long : ℕ) (b : List ℕ) (numbers nodes : Range ℕ) : Type 0 where
  pub bytes : length b ≡ long
  pub fits : dimension_at b ≤ largest_dimension
  pub low : 1 ≤ numbers.start
  pub inside : numbers.start ≤ numbers.end
  pub joined : numbers.end ≡ channels * nodes.start + 1
  pub nodes_inside : nodes.start ≤ nodes.end
  pub high : nodes.end ≡ cube_nodes (dimension_at b)

-- the part of the table's book that is left
abbrev pub open_left : List ℕ → Range ℕ → List BookCircuit
open_left b numbers = book_from (view b) numbers.start (last_of b + 1 - numbers.start)

-- an iterator over all open circuits of a table
pub record StartsAt (b bytes : List ℕ) (numbers : Range ℕ) : Type 0 where
  pub same : bytes ≡ b
  pub first : numbers.start ≡ 1

-- it goes on to a node, past some that have no open circuit, or none of those left has one
pub record NodeNext (b : List ℕ) (numbers nodes : Range ℕ) (r : Option ℕ) (b' : List ℕ) (numbers' nodes' : Range ℕ) : Type 0 where
  pub same : b' ≡ b
  pub rest : open_left b numbers ≡ open_left b' numbers'
  pub rises : numbers.start ≤ numbers'.start
  pub found : MatchOption r (open_left b' numbers' ≡ []) (λ n. nodes.start < nodes'.start)

-- it gives the next open circuit, and leaves those above it
pub record OpenNext (long : ℕ) (b : List ℕ) (numbers : Range ℕ) (c : Circuit) (b' : List ℕ) (numbers' : Range ℕ) : Type 0 where
  pub same : b' ≡ b
  pub source : HasSourceIn long b c.0
  pub opens : is_open_in (view b) c.0 ≡ true
  pub rises : numbers.start < numbers'.start
  pub inside : numbers'.start ≤ last_of b + 1
  pub rest : open_left b numbers ≡ record { number = c.0; ports = path_of (view b) c.0 } ∷ open_left b' numbers'

abbrev pub GivesOpen : ℕ → List ℕ → Range ℕ → Option Circuit → List ℕ → Range ℕ → Type 0
GivesOpen long b numbers r b' numbers' =
    MatchOption r ((open_left b numbers ≡ []) × (open_left b' numbers' ≡ [])) (λ c. OpenNext long b numbers c b' numbers')
