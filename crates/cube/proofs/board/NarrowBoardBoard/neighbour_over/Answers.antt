-- `^` with the bit of a port below 8 changes that bit alone.
use mathlib.Core.Path.{ap, sym, ◌∙◌}
use native.Mathlib.Omega.{arith}
use lib.Bits.{bit_xor}
use Rattle.cube.specs.Bits.{flip}
use Rattle.cube.proofs.Axes.{axis_low}
use Rattle.cube.proofs.Bits.{flip_xor}
use Rattle.cube.proofs.Ports.{power_below}
use Rattle.cube.proofs.board.NarrowBoardBoard.neighbour_over.Goals as goal

pub returns : goal.returns
returns c p e =
    let n = c.args.node.0 in
    ap (bit_xor n) e ∙ flip_xor n p ∙ ap (flip n) (sym (axis_low p (omega (arith, power_below 8 p (omega (arith, e, c.requires.1))))))
