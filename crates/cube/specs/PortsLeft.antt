-- The ports of a vector that `VectorPorts` has still to give.
-- Assumes nothing.
use Rattle.std.specs.Prelude.{List, ℕ}
use Rattle.cube.specs.declared.vector_ports.VectorPorts.{VectorPorts}
use Rattle.cube.specs.Axes.{positions}
use Rattle.cube.specs.Helical.{ports_of}

abbrev pub ports_left : VectorPorts → List ℕ
ports_left ports = ports_of positions ports.left
