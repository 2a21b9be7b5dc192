-- `table_book::write_book` meets its contract: what is left to write behind what was written is the book of the table.
use mathlib.Core.Path.{ap, ◌∙◌}
use lib.ListN.{length}
use Rattle.table_book.proofs.Filling.{nothing_filled, room, fill_open, ports_filled, index_filled}
use Rattle.table_book.proofs.write_book.Goals as goal

pub loop-circuit-init : goal.loop-circuit-init
loop-circuit-init g c = rw (c.into_iter-circuit-iterator.ensures.into_iter_gives, c.of-circuit-items.ensures.first) (record { same = c.of-circuit-items.ensures.same; filled = nothing_filled _ _ _ })

pub put_circuit-requires-clause-room : goal.put_circuit-requires-clause-room
put_circuit-requires-clause-room g c =
    let same = c.loop-circuit.invariant.same in
    let next = rw (c.in-Some.ensures.steps.same, same) at c.in-Some.ensures.steps.rest in
    room c.loop-circuit.invariant.filled _ _ next (ap length c.path.ensures.ports_value) c.requires.0 c.requires.1

pub loop-circuit-preserved : goal.loop-circuit-preserved
loop-circuit-preserved g c =
    let same = c.loop-circuit.invariant.same in
    let next = rw (c.in-Some.ensures.steps.same, same) at c.in-Some.ensures.steps.rest in
    let path = c.path.ensures in
    let put = c.put_circuit.ensures in
    record {
      same = c.in-Some.ensures.steps.same ∙ same;
      filled = fill_open c.loop-circuit.invariant.filled _ _ next c.in-Some.ensures.steps.rises path.ports_value path.few c.with-size.ensures.0 c.with-size.ensures.1 put.ports_after put.index_after;
    }

pub returns-clause-ports_after : goal.returns-clause-ports_after
returns-clause-ports_after g c = ports_filled c.loop-circuit.invariant.filled (rw c.loop-circuit.invariant.same at c.in-None.ensures.steps.0) c.requires.0

pub returns-clause-index_after : goal.returns-clause-index_after
returns-clause-index_after g c = index_filled c.loop-circuit.invariant.filled (rw c.loop-circuit.invariant.same at c.in-None.ensures.steps.0) c.requires.1
