-- `cube::vectors::lowest_of` meets its contract: the zeros below the lowest bit are its place.
use native.Mathlib.Omega.{arith}
use Rattle.cube.proofs.Ports.{lowest_none, lowest_some}
use Rattle.cube.proofs.vectors.lowest_of.Goals as goal

pub returns-then-vector-eq0 : goal.returns-then-vector-eq0
returns-then-vector-eq0 c = lowest_none 8 16 c.args.vector (omega arith) c.requires c.if-vector-eq0.true

pub returns-else-vector-eq0 : goal.returns-else-vector-eq0
returns-else-vector-eq0 c = lowest_some 8 16 c.args.vector (omega arith) c.requires c.if-vector-eq0.false
