-- `joining::halves::enable_port` meets its contract: the bit is set in the masks of the first nodes.
use native.Mathlib.Omega.{arith}
use Rattle.joining.proofs.Parts.{port_enabled}
use Rattle.joining.proofs.halves.enable_port.Goals as goal

pub returns : goal.returns
returns c =
    port_enabled c.args.joined.now c.set_port.new.masks c.args.port.0 c.args.nodes c.requires.2 c.requires.0 (omega (arith, c.from.ensures)) c.set_port.auto.masks c.set_port.ensures
