-- `joining::halves::set_port` meets its contract: the bit is set in every mask.
use mathlib.Core.Path.{◌∙◌, ap}
use native.Mathlib.Omega.{arith}
use lib.Bits.{bit_or}
use lib.ListN.{get_or}
use Rattle.cube.proofs.Ports.{port_bit}
use Rattle.joining.specs.JoinContracts.{PortSet}
use Rattle.joining.proofs.halves.set_port.Goals as goal

pub returns : goal.returns
unfolding PortSet
returns c n h = c.loop-mask.invariant.marked n (omega arith) ∙ ap (bit_or (get_or c.args.masks.now n 0)) (port_bit 8 c.args.port.0 c.requires)
