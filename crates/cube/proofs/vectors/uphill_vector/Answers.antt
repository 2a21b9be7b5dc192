-- `cube::vectors::uphill_vector` meets its contract: `^` of two nodes has the bits in which they differ.
use Rattle.cube.proofs.Ports.{uphill_of}
use Rattle.cube.proofs.vectors.uphill_vector.Goals as goal

pub returns : goal.returns
returns c = uphill_of c.args.node.0 c.args.target.0
