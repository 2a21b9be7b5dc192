-- `cube::vectors::neighbour` meets its contract: `^` with the port's bit changes that bit alone.
use mathlib.Core.Path.{ap, sym, ◌∙◌}
use native.Mathlib.Omega.{arith}
use lib.Bits.{bit_xor}
use Rattle.cube.specs.Bits.{flip}
use Rattle.cube.proofs.Axes.{axis_low}
use Rattle.cube.proofs.Bits.{flip_xor}
use Rattle.cube.proofs.Ports.{port_bit}
use Rattle.cube.proofs.vectors.neighbour.Goals as goal

pub returns : goal.returns
returns c =
    let n = c.args.node.0 in
    let p = c.args.port.0 in
    ap (bit_xor n) (port_bit 16 p (omega arith)) ∙ flip_xor n p ∙ ap (flip n) (sym (axis_low p c.requires))
