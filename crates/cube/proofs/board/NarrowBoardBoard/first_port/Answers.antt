-- The entry of the table of first ports is the port tried first.
use mathlib.Core.Path.{ap, ◌∙◌}
use Prim.Native.Nat.{◌+◌, ◌*◌}
use native.Mathlib.Omega.{arith}
use lib.ListN.{get_or}
use Rattle.cube.proofs.FirstPort.{rule_table, first_ports}
use Rattle.cube.specs.declared.first_port_table.TheConstants.{FIRST_PORTS}
use Rattle.cube.proofs.board.NarrowBoardBoard.first_port.Goals as goal

pub returns : goal.returns
returns c =
    let a = c.requires in
    rule_table c.args.vector c.args.arrival.0 _ a.ports (omega (arith, a.some))
    (c.from-2.ensures ∙ ap (λ x. get_or FIRST_PORTS (8 * c.args.vector + x) 0) c.from.ensures ∙ first_ports.entry c.args.vector c.args.arrival.0 a.ports a.port)
