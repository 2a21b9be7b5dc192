-- `cube::folds::folded_neighbour` meets its contract: `^` with the bit of the port's axis changes that bit alone.
use mathlib.Core.Path.{ap, ◌∙◌}
use native.Mathlib.Omega.{arith}
use lib.Bits.{bit_xor}
use Rattle.cube.specs.Bits.{flip}
use Rattle.cube.proofs.Bits.{flip_xor}
use Rattle.cube.proofs.Ports.{port_bit}
use Rattle.cube.proofs.folds.folded_neighbour.Goals as goal

pub returns : goal.returns
returns c =
    let n = c.args.node.0 in
    let a = c.axis.result in
    ap (bit_xor n) (port_bit 16 a (omega (arith, c.axis.ensures.1))) ∙ flip_xor n a ∙ ap (flip n) c.axis.ensures.0
