-- `judging::circuits::circuits_fit` meets its contract: the circuits of the lines left all fit exactly where those of all lines do.
use mathlib.Core.Path.{◌≡◌}
use mathlib.Core.List.{map}
use Rattle.std.specs.List.{list_all}
use Rattle.table.specs.View.{view}
use Rattle.book.specs.BookContracts.{lines_left}
use Rattle.judging.specs.Judged.{judge_facts, circuit_on, circuit_fits}
use Rattle.judging.specs.JudgeContracts.{LinesInside}
use Rattle.judging.proofs.circuits.circuits_fit.Given as goal

abbrev pub invariant-loop-line : goal.invariant-loop-line
invariant-loop-line g l = record {
  inside : LinesInside l.ports (lines_left l.line-iterator);
  rest : list_all (circuit_fits (judge_facts (view l.table.bytes.now))) (map (circuit_on l.ports) (lines_left l.line-iterator))
      ≡ list_all (circuit_fits (judge_facts (view l.table.bytes.now))) (map (circuit_on l.ports) (lines_left l.lines));
}
