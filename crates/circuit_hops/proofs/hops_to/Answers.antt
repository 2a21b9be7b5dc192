-- `circuit_hops::hops_to` meets its contract: a number in range is followed from its source, and marked.
use mathlib.Core.Path.{ap, ◌∙◌}
use Prim.Native.Nat.{◌^◌}
use native.Mathlib.Omega.{arith}
use native.Mathlib.Nat.{lt_of_lt_of_le}
use lib.Pow.{pow_mono}
use Rattle.cube.specs.Cube.{next}
use Rattle.cube.proofs.Ports.{below_256}
use Rattle.layout.specs.Layout.{dimension_at}
use Rattle.table.specs.View.{view}
use Rattle.table.proofs.CubeRows.{table_row}
use Rattle.circuit_hops.proofs.Following.{followed, first_small, leads_inside}
use Rattle.circuit_hops.proofs.CountsHops.{source_inside, counts_new, counts_seen}
use Rattle.circuit_hops.proofs.Ways.{shown}
use Rattle.circuit_hops.proofs.hops_to.Goals as goal

pub returns-then-c-table : goal.returns-then-c-table
returns-then-c-table g c l z q u = omega (arith, c.if-c-table.true, c.args.table.now.count, l, ap (2 ^◌) (shown c.args.table.now.bytes.now))

pub mark-requires : goal.mark-requires
mark-requires g c =
    let table = c.args.table.now in
    (below_256 table.fits (rw c.source_of-source.ensures (source_inside (dimension_at table.bytes.now) table.count c.requires.circuit c.if-c-table.false)), lt_of_lt_of_le c.ports_held-held.ensures.small (pow_mono c.requires.room))

pub returns-then-not-mark : goal.returns-then-not-mark
returns-then-not-mark g c =
    let table = c.args.table.now in
    counts_seen g.L.Layout.PORTS table.bytes.now (table_row g.met.L.Layout.laws table.bytes.now table.long table.fits) c.args.c.0 c.args.end.0 (g.M.Marks.of_node c.args.seen.now) (g.M.Marks.of_node c.mark.new.self) c.source_of-source.ensures c.ports_held-held.ensures
    (unfold view in source_inside (dimension_at table.bytes.now) table.count c.requires.circuit c.if-c-table.false) c.in_ok-first.ensures.of_cube
    (c.if-not-mark.ensures.is_new)

pub neighbour_over-next-requires : goal.neighbour_over-next-requires
unfolding view
neighbour_over-next-requires g c = let table = c.args.table.now in first_small table.bytes.now c.in_ok-first.ensures.leaves (λ p e. c.board.ensures.3 (dimension_at table.bytes.now) p table.fits e)

pub walk-requires : goal.walk-requires
walk-requires g c =
    let table = c.args.table.now in
    let inside = source_inside (dimension_at table.bytes.now) table.count c.requires.circuit c.if-c-table.false in
    (omega (arith, table.count, leads_inside table.bytes.now c.in_ok-first.ensures.leaves (λ p e. c.neighbour_over-next.ensures p e ∙ ap (λ n. next n p) c.source_of-source.ensures) inside), c.requires.end_in_cube)

pub returns : goal.returns
returns g c =
    let table = c.args.table.now in
    let at = c.source_of-source.ensures in
    counts_new g.L.Layout.PORTS table.bytes.now (table_row g.met.L.Layout.laws table.bytes.now table.long table.fits) c.args.c.0 c.args.end.0 (g.M.Marks.of_node c.args.seen.now) (g.M.Marks.of_node c.mark.new.self) at c.ports_held-held.ensures c.walk.result c.if-not-mark.ensures.is_new
    (c.mark.ensures.newly_marked c.if-not-mark.false) (omega (arith, c.mark.ensures.nodes, at, below_256 table.fits (source_inside (dimension_at table.bytes.now) table.count c.requires.circuit c.if-c-table.false))) (omega (arith, c.if-c-table.false, table.count, ap (2 ^◌) (shown table.bytes.now)))
    (followed table.bytes.now c.in_ok-first.ensures.leaves (λ p e. c.neighbour_over-next.ensures p e ∙ ap (λ n. next n p) at) c.walk.result c.walk.ensures)
