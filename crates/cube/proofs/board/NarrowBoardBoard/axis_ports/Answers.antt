-- Of a board with no folds an axis has one port.
use native.Mathlib.Omega.{arith}
use Rattle.cube.proofs.PartnerPorts.{axis_alone}
use Rattle.cube.proofs.Ports.{port_bit}
use Rattle.cube.proofs.board.NarrowBoardBoard.axis_ports.Goals as goal

pub returns : goal.returns
returns c = axis_alone c.args.port.0 _ c.requires (port_bit 32 c.args.port.0 (omega (arith, c.requires)))
