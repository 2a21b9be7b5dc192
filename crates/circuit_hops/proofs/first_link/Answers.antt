-- `circuit_hops::first_link` meets its contract: the only link that the circuit holds at its source, or of several the one that is not offered.
use mathlib.Core.Path.{sym, ◌∙◌}
use native.Mathlib.Omega.{arith}
use Rattle.cube.proofs.Ports.{below_256}
use Rattle.table.proofs.CubeRows.{table_row}
use Rattle.circuit_hops.proofs.Following.{leaving_one, leaving_none, leaving_several, several_none}
use Rattle.circuit_hops.proofs.CountsHops.{vector_inside}
use Rattle.circuit_hops.proofs.Ways.{uphill_small, offered_vector, ports_there, not_none}
use Rattle.circuit_hops.proofs.first_link.Goals as goal
use Rattle.circuit_hops.proofs.first_link.Goals.{then-links_held-gt1+else-not-one_at_most+else-not-in_cube, else-links_held-gt1+else-not-in_cube-2}
use Rattle.circuit_hops.proofs.first_link.Goals.{then-not-one_at_most-via-then-not-one_at_most, then-not-one_at_most-via-else-not-one_at_most+then-not-in_cube}

pub with_partners-requires : goal.with_partners-requires
with_partners-requires g c =
    let table = c.args.table.now in
    uphill_small (below_256 table.fits (rw c.source_of-source.ensures c.requires.c_in_cube.1)) (below_256 table.fits (omega (arith, c.requires.end_in_cube, table.count))) c.uphill_vector.ensures c.from-uphill.ensures

pub returns-then-not-one_at_most-clause-leaves : goal.returns-then-not-one_at_most-clause-leaves
returns-then-not-one_at_most-clause-leaves g c z e =
    let table = c.args.table.now in
    let row = table_row g.met.L.Layout.laws table.bytes.now table.long table.fits in
    elim c.then-not-one_at_most.branch [
      | then-not-one_at_most-via-then-not-one_at_most w ↦
          several_none g.L.Layout.PORTS row c.args.end.0 c.requires.held_there c.source_of-source.ensures
          (offered_vector table.bytes.now table.fits (rw c.source_of-source.ensures c.requires.c_in_cube.1) (omega (arith, c.requires.end_in_cube, table.count)) c.uphill_vector.ensures c.from-uphill.ensures c.board-board.ensures.2 c.with_partners.ensures)
          (omega (arith, c.links_held.ensures, c.if-links_held-gt1.true)) (λ o. c.one_at_most.ensures.fails w.if-not-one_at_most.true (λ h. o)) z e
      | then-not-one_at_most-via-else-not-one_at_most+then-not-in_cube w ↦
          (ports_there table.bytes.now c.args.held table.fits table.count c.board-board.ensures.2 w.in_cube.ensures).fails w.if-not-in_cube.true (vector_inside table.bytes.now c.args.c.0 c.requires.c_in_cube.1 z g.L.Layout.PORTS c.requires.held_there)
    ]

pub returns-then-not-in_cube-2-clause-leaves : goal.returns-then-not-in_cube-2-clause-leaves
returns-then-not-in_cube-2-clause-leaves g c z e =
    let table = c.args.table.now in
    (ports_there table.bytes.now c.args.held table.fits table.count c.board-board.ensures.2 c.in_cube-else-links_held-gt1.ensures).fails c.if-not-in_cube-2.true (vector_inside table.bytes.now c.args.c.0 c.requires.c_in_cube.1 z g.L.Layout.PORTS c.requires.held_there)

pub returns-then-first-eq0-clause-leaves : goal.returns-then-first-eq0-clause-leaves
returns-then-first-eq0-clause-leaves g c z e =
    let table = c.args.table.now in
    let row = table_row g.met.L.Layout.laws table.bytes.now table.long table.fits in
    elim c.if-links_held-gt1.branch [
      | then-links_held-gt1+else-not-one_at_most+else-not-in_cube w ↦
          several_none g.L.Layout.PORTS row c.args.end.0 c.requires.held_there c.source_of-source.ensures
          (offered_vector table.bytes.now table.fits (rw c.source_of-source.ensures c.requires.c_in_cube.1) (omega (arith, c.requires.end_in_cube, table.count)) w.uphill_vector.ensures w.from-uphill.ensures c.board-board.ensures.2 w.with_partners.ensures)
          (omega (arith, c.links_held.ensures, w.if-links_held-gt1.true)) (λ o. not_none o (sym w.first-is ∙ c.if-first-eq0.true)) z e
      | else-links_held-gt1+else-not-in_cube-2 w ↦ leaving_none g.L.Layout.PORTS row c.args.end.0 c.requires.held_there (sym w.first-is ∙ c.if-first-eq0.true) z e
    ]

pub returns-clause-leaves : goal.returns-clause-leaves
returns-clause-leaves g c =
    let table = c.args.table.now in
    let row = table_row g.met.L.Layout.laws table.bytes.now table.long table.fits in
    elim c.if-links_held-gt1.branch [
      | then-links_held-gt1+else-not-one_at_most+else-not-in_cube w ↦
          rw w.first-is
          (leaving_several g.L.Layout.PORTS row c.args.end.0 c.requires.held_there c.source_of-source.ensures
          (offered_vector table.bytes.now table.fits (rw c.source_of-source.ensures c.requires.c_in_cube.1) (omega (arith, c.requires.end_in_cube, table.count)) w.uphill_vector.ensures w.from-uphill.ensures c.board-board.ensures.2 w.with_partners.ensures)
          (omega (arith, c.links_held.ensures, w.if-links_held-gt1.true)) ((ports_there table.bytes.now c.args.held table.fits table.count c.board-board.ensures.2 w.in_cube.ensures).holds w.if-not-in_cube.false) (w.one_at_most.ensures.holds w.if-not-one_at_most.false (λ h. c.if-first-eq0.false (w.first-is ∙ h))))
      | else-links_held-gt1+else-not-in_cube-2 w ↦
          rw w.first-is
          (leaving_one g.L.Layout.PORTS row c.args.end.0 c.requires.held_there c.source_of-source.ensures (omega (arith, c.links_held.ensures, w.if-links_held-gt1.false))
          ((ports_there table.bytes.now c.args.held table.fits table.count c.board-board.ensures.2 w.in_cube-else-links_held-gt1.ensures).holds w.if-not-in_cube-2.false) (λ h. c.if-first-eq0.false (w.first-is ∙ h)))
    ]

pub returns-clause-of_cube : goal.returns-clause-of_cube
returns-clause-of_cube g c =
    let table = c.args.table.now in
    elim c.if-links_held-gt1.branch [
      | then-links_held-gt1+else-not-one_at_most+else-not-in_cube w ↦ (ports_there table.bytes.now c.args.held table.fits table.count c.board-board.ensures.2 w.in_cube.ensures).holds w.if-not-in_cube.false
      | else-links_held-gt1+else-not-in_cube-2 w ↦ (ports_there table.bytes.now c.args.held table.fits table.count c.board-board.ensures.2 w.in_cube-else-links_held-gt1.ensures).holds w.if-not-in_cube-2.false
    ]
