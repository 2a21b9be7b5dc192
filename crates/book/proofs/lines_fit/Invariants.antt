-- `book::lines_fit` meets its contract: the lines left fit behind those before exactly where all lines fit.
use mathlib.Core.Path.{◌≡◌}
use Prim.Native.Nat.{◌+◌, ◌*◌, ◌≤◌}
use Rattle.book.specs.Lookup.{lines_fit}
use Rattle.book.specs.BookContracts.{lines_left}
use Rattle.book.proofs.lines_fit.Given as goal

abbrev pub invariant-loop-line : goal.invariant-loop-line
invariant-loop-line l = record {
  most : l.last.number ≤ 2048;
  sum : l.last.offset + l.last.hops ≤ 9 * l.last.number;
  rest : lines_fit l.last.number (l.last.offset + l.last.hops) (lines_left l.line-iterator) l.hops ≡ lines_fit 0 0 (lines_left l.lines) l.hops;
}
