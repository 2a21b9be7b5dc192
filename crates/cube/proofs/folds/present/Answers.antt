-- `cube::folds::present` meets its contract.
use mathlib.Core.Path.{ap, sym, ◌∙◌}
use native.Mathlib.Omega.{arith}
use borrow.Author.Tests.{eq-eqb, le-ltb}
use Rattle.cube.specs.Bits.{has, bit_at}
use Rattle.cube.proofs.PartnerPorts.{present_above, present_own, present_folded, present_outside}
use Rattle.cube.proofs.folds.present.Goals as goal

pub returns-then-port-ge-POSITIONS : goal.returns-then-port-ge-POSITIONS
returns-then-port-ge-POSITIONS c = present_above c.args.dimension c.args.fold c.args.port.0 c.if-port-ge-POSITIONS.true

pub returns-then-port-a : goal.returns-then-port-a
returns-then-port-a c =
    let e = c.axis-a.ensures.0 in
    eq-eqb c.args.port.0 c.axis-a.result c.if-port-a.true
    ∙ present_own c.args.dimension c.args.fold c.args.port.0 c.if-port-ge-POSITIONS.false (omega (arith, e, c.if-a-dimension.true)) (c.if-port-a.true ∙ e)

pub returns-else-port-a : goal.returns-else-port-a
unfolding has bit_at
returns-else-port-a c =
    let e = c.axis-a.ensures.0 in
    ap (λ a. has c.args.fold a) e
    ∙ present_folded c.args.dimension c.args.fold c.args.port.0 c.if-port-ge-POSITIONS.false (omega (arith, e, c.if-a-dimension.true)) (λ i. c.if-port-a.false (i ∙ sym e))

pub returns-else-a-dimension : goal.returns-else-a-dimension
returns-else-a-dimension c =
    let e = c.axis-a.ensures.0 in
    le-ltb c.axis-a.result c.args.dimension c.if-a-dimension.false ∙ present_outside c.args.dimension c.args.fold c.args.port.0 (omega (arith, e, c.if-a-dimension.false))
