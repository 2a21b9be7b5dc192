-- `table_book::write_book` meets its contract: what is left to write behind what was written is the book of the table.
use mathlib.Core.Path.{◌≡◌}
use Rattle.table.specs.View.{view}
use Rattle.table_book.specs.Writing.{last_of}
use Rattle.table_book.proofs.Filling.{Filling}
use Rattle.table_book.proofs.write_book.Given as goal

abbrev pub invariant-loop-circuit : goal.invariant-loop-circuit
invariant-loop-circuit g l = record {
  same : l.circuit-iterator.bytes.now ≡ l.table.bytes.now;
  filled : Filling (view l.table.bytes.now) (last_of l.table.bytes.now) l.initial.ports l.initial.index l.ports l.index l.size.circuits l.size.hops l.circuit-iterator.numbers.start;
}
