-- `circuit_hops::walk` meets its contract: what the rest of the way comes to, the whole way comes to.
use mathlib.Core.Path.{sym}
use native.Mathlib.Omega.{arith}
use borrow.Author.Tests.{eqb-true, not-false}
use Rattle.layout.specs.Resources.{width_least}
use Rattle.cube.proofs.Ports.{below_256}
use Rattle.std.proofs.Common.{Some, None}
use Rattle.std.specs.Int.Bits.{bit_and}
use Rattle.table.specs.View.{view}
use Rattle.circuit_hops.specs.CountHops.{OnePort}
use Rattle.circuit_hops.proofs.Ways.{differ, uphill_small, offered_vector, one_sole, sole_one, few_one, not_none, walks_here, walks_none, walks_on, walk_hop, distance_most, shown}
use Rattle.circuit_hops.proofs.walk.Goals as goal
use Rattle.circuit_hops.proofs.walk.Goals.{else-links_held-gt1, then-links_held-gt1+else-not-one_at_most}

pub loop-c-init : goal.loop-c-init
loop-c-init g c =
    let b = c.args.table.now.bytes.now in
    (omega (arith, c.args.table.now.count), omega (arith, distance_most (view b) c.args.end.0 c.args.from.0 (omega (arith, shown b, c.args.table.now.fits))), λ r x. x)

pub ports_held-held-requires : goal.ports_held-held-requires
ports_held-held-requires g c = record { bytes = c.args.table.now.long; node = below_256 c.args.table.now.fits c.loop-c.invariant.0; port = omega (arith, width_least g.met.L.Layout.laws.ports_are) }

pub links_held-requires : goal.links_held-requires
links_held-requires g c = record { bytes = c.args.table.now.long; node = below_256 c.args.table.now.fits c.loop-c.invariant.0; port = omega (arith, width_least g.met.L.Layout.laws.ports_are) }

pub with_partners-requires : goal.with_partners-requires
with_partners-requires g c = uphill_small (below_256 c.args.table.now.fits c.loop-c.invariant.0) (below_256 c.args.table.now.fits (omega (arith, c.requires.1, c.args.table.now.count))) c.uphill_vector.ensures c.from.ensures

pub returns-then-not-one_at_most : goal.returns-then-not-one_at_most
returns-then-not-one_at_most g c =
    let table = c.args.table.now in
    let up = offered_vector table.bytes.now table.fits c.loop-c.invariant.0 (omega (arith, c.requires.1, table.count)) c.uphill_vector.ensures c.from.ensures c.board-board.ensures.2 c.with_partners.ensures in
    c.loop-c.invariant.2 None (walks_none table.bytes.now c.args.c.0 c.loop-c.at.0 c.args.end.0 c.loop-c.hops (differ c.loop-c-test.ensures)
    (λ p s m. c.one_at_most.ensures.fails c.if-not-one_at_most.true (λ h. sole_one g.L.Layout.PORTS c.ports_held-held.ensures up c.board-board.ensures.0 s m)))

pub returns-then-on-eq0 : goal.returns-then-on-eq0
returns-then-on-eq0 g c =
    let table = c.args.table.now in
    let up = offered_vector table.bytes.now table.fits c.loop-c.invariant.0 (omega (arith, c.requires.1, table.count)) c.uphill_vector.ensures c.from.ensures c.board-board.ensures.2 c.with_partners.ensures in
    c.loop-c.invariant.2 None (walks_none table.bytes.now c.args.c.0 c.loop-c.at.0 c.args.end.0 c.loop-c.hops (differ c.loop-c-test.ensures)
    (λ p s m. not_none (sole_one g.L.Layout.PORTS c.ports_held-held.ensures up c.board-board.ensures.0 s m) c.if-on-eq0.true))

pub overflow_add-hops : goal.overflow_add-hops
overflow_add-hops g c = omega (arith, c.loop-c.invariant.1)

pub loop-c-smaller : goal.loop-c-smaller
loop-c-smaller g c =
    let table = c.args.table.now in
    let up = offered_vector table.bytes.now table.fits c.loop-c.invariant.0 (omega (arith, c.requires.1, table.count)) c.uphill_vector.ensures c.from.ensures c.board-board.ensures.2 c.with_partners.ensures in
    let one : OnePort (bit_and c.ports_held-held.result c.with_partners.result) =
    elim c.if-links_held-gt1.branch [ then-links_held-gt1+else-not-one_at_most w ↦ w.one_at_most.ensures.holds w.if-not-one_at_most.false c.if-on-eq0.false | else-links_held-gt1 w ↦ few_one g.L.Layout.PORTS c.ports_held-held.ensures up c.board-board.ensures.0 (omega (arith, c.links_held.ensures, w.if-links_held-gt1.false)) c.if-on-eq0.false ] in
    let x = walk_hop table.bytes.now c.args.c.0 c.loop-c.at.0 c.args.end.0 c.loop-c.hops (one_sole g.L.Layout.PORTS c.ports_held-held.ensures up c.board-board.ensures.0 one) c.loop-c.invariant.0 c.neighbour_over-at.ensures in
    omega (arith, x.nearer)

pub loop-c-preserved : goal.loop-c-preserved
loop-c-preserved g c =
    let table = c.args.table.now in
    let up = offered_vector table.bytes.now table.fits c.loop-c.invariant.0 (omega (arith, c.requires.1, table.count)) c.uphill_vector.ensures c.from.ensures c.board-board.ensures.2 c.with_partners.ensures in
    let one : OnePort (bit_and c.ports_held-held.result c.with_partners.result) =
    elim c.if-links_held-gt1.branch [ then-links_held-gt1+else-not-one_at_most w ↦ w.one_at_most.ensures.holds w.if-not-one_at_most.false c.if-on-eq0.false | else-links_held-gt1 w ↦ few_one g.L.Layout.PORTS c.ports_held-held.ensures up c.board-board.ensures.0 (omega (arith, c.links_held.ensures, w.if-links_held-gt1.false)) c.if-on-eq0.false ] in
    let x = walk_hop table.bytes.now c.args.c.0 c.loop-c.at.0 c.args.end.0 c.loop-c.hops (one_sole g.L.Layout.PORTS c.ports_held-held.ensures up c.board-board.ensures.0 one) c.loop-c.invariant.0 c.neighbour_over-at.ensures in (
      x.inside,
      omega (arith, x.nearer, c.loop-c.invariant.1),
      λ r w. c.loop-c.invariant.2 r (walks_on table.bytes.now c.args.c.0 c.loop-c.at.0 c.args.end.0 c.loop-c.hops (differ c.loop-c-test.ensures) x r w),
    )

pub returns : goal.returns
returns g c =
    c.loop-c.invariant.2 (Some c.loop-c.hops) (walks_here c.args.table.now.bytes.now c.args.c.0 c.loop-c.at.0 c.args.end.0 c.loop-c.hops (eqb-true _ _ (not-false _ (sym c.loop-c-test.ensures)))
    (omega (arith, c.loop-c.invariant.1)))
