-- A book of circuits in two buffers (Books 1).
-- Assumes nothing.
use Rattle.std.specs.Prelude.{List, [], ◌∷◌, ◌++◌, ℕ, ◌+◌, ◌/◌, ◌%◌, length}

-- a circuit of a book: its number, and the ports of its path
pub record BookCircuit : Type 0 where
  pub number : ℕ
  pub ports : List ℕ

-- Books 2: the ports of all circuits end to end
unfoldable pub port_bytes : List BookCircuit → List ℕ
port_bytes [] = []
port_bytes (x ∷ xs) = x.ports ++ port_bytes xs

-- Books 3: two bytes, the low one first
unfoldable pub word_bytes : ℕ → List ℕ
word_bytes n = n % 256 ∷ n / 256 ∷ []

-- Books 3: number, offset and length of each circuit, in the same order (Books 4), the first from an offset on
unfoldable pub index_from : ℕ → List BookCircuit → List ℕ
index_from at [] = []
index_from at (x ∷ xs) = word_bytes x.number ++ word_bytes at ++ word_bytes (length x.ports) ++ index_from (at + length x.ports) xs

abbrev pub index_bytes : List BookCircuit → List ℕ
index_bytes xs = index_from 0 xs

-- Books 1: the count of hops, beside that of circuits
abbrev pub hop_count : List BookCircuit → ℕ
hop_count xs = length (port_bytes xs)

-- Books 3: six bytes of the index for each circuit
abbrev pub line_length : ℕ
line_length = 6
