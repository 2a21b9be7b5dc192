-- `judging::cube_board::board_of` meets its contract: each port of the cube is in a vector that the board holds.
use Rattle.table.specs.View.{view, shape_of}
use Rattle.judging.proofs.PortsOfCube.{board_over}
use Rattle.judging.proofs.cube_board.board_of.Goals as goal

pub returns : goal.returns
unfolding view
returns g c = board_over (shape_of (view c.args.table.now.bytes.now)) c.board.ensures.0 c.board.ensures.2 c.cube_ports.ensures
