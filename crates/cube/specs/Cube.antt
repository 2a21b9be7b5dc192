-- The cube: nodes, where a port leads, circuits; and which ports lead towards a target.
-- Assumes nothing.
use Rattle.std.specs.Prelude.{Bool, not, ℕ, ◌+◌, ◌-◌, ◌*◌, ◌/◌, ◌%◌, ◌^◌, ◌<◌, eqb}
use Rattle.cube.specs.Bits.{bit_at, flip}
use Rattle.cube.specs.Axes.{axis}

-- Cube 1: the dimension is 1 to 8.
abbrev pub largest_dimension : ℕ
largest_dimension = 8

-- Tables 8: a row of a narrow table, and a vector, has so many ports, whatever the dimension is.
abbrev pub port_count : ℕ
port_count = 8

-- Cube 9, Cube 10: the send channels of a node, and its receive channels.
abbrev pub channels : ℕ
channels = 8

-- Cube 1: the nodes are 0 to 2^D - 1: how many, and a node.
abbrev pub cube_nodes : ℕ → ℕ
cube_nodes D = 2 ^ D

abbrev pub NodeOf : ℕ → ℕ → Type 0
NodeOf D n = n < cube_nodes D

-- Paths 2: a vector names ports below D alone.
abbrev pub VectorOf : ℕ → ℕ → Type 0
VectorOf D vector = vector < 2 ^ D

-- Cube 6: over a port to the node with the bit of its axis changed. Cube 7: one arrives there on the same port.
abbrev pub next : ℕ → ℕ → ℕ
next n p = flip n (axis p)

-- Cube 11: a circuit's number, from its source s and its send channel c; it is never 0.
abbrev pub circuit_of : ℕ → ℕ → ℕ
circuit_of s c = 8 * s + c + 1

-- Cube 12: the source and the send channel of a circuit.
abbrev pub source_of : ℕ → ℕ
source_of k = (k - 1) / 8

abbrev pub channel_of : ℕ → ℕ
channel_of k = (k - 1) % 8

-- Paths 1: node and target differ in the bit of an axis p. A port is uphill if its axis is.
unfoldable pub uphill : ℕ → ℕ → ℕ → Bool
unfolding bit_at
uphill t n p = not (eqb (bit_at n p) (bit_at t p))
