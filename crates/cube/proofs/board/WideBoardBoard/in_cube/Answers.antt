-- The ports of a cube are those below its dimension and the partners of the folded ones.
use native.Mathlib.Omega.{arith}
use Rattle.cube.proofs.PortsInside.{wide_inside}
use Rattle.cube.proofs.board.WideBoardBoard.in_cube.Goals as goal

pub returns : goal.returns
returns c = wide_inside c.args.self.fold c.args.vector c.args.nodes c.with_partners.result c.from.ensures c.with_partners.ensures (omega arith)
