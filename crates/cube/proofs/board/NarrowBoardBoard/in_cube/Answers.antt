-- The ports of a cube with no folds are those below its dimension.
use Rattle.cube.proofs.PortsInside.{narrow_inside}
use Rattle.cube.proofs.board.NarrowBoardBoard.in_cube.Goals as goal

pub returns : goal.returns
returns c = narrow_inside c.args.vector c.args.nodes c.from.ensures
