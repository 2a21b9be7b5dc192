-- `cube::folds::axis_ports` meets its contract: a port and its partner.
use Rattle.cube.proofs.PartnerPorts.{axis_two}
use Rattle.cube.proofs.folds.axis_ports.Goals as goal

pub returns : goal.returns
returns c = axis_two c.args.port.0 c.requires
