-- `judging::targets::targets_fit` meets its contract: the targets of the lines left fit behind those counted exactly where all targets fit.
use mathlib.Core.List.{map}
use Rattle.table.specs.View.{view, shape_of, net, available}
use Rattle.book.specs.BookContracts.{lines_left}
use Rattle.judging.specs.Judged.{circuit_on, target_in}
use Rattle.judging.specs.JudgeContracts.{LinesInCube}
use Rattle.judging.proofs.CountingTargets.{CountingLeft}
use Rattle.judging.proofs.targets.targets_fit.Given as goal

abbrev pub invariant-loop-line : goal.invariant-loop-line
invariant-loop-line g l = record {
  in_cube : LinesInCube (shape_of (view l.table.bytes.now)) l.ports (lines_left l.line-iterator);
  counting : CountingLeft (available (view l.table.bytes.now)) l.counts.of_node (map (target_in (net (view l.table.bytes.now))) (map (circuit_on l.ports) (lines_left l.line-iterator)))
      (map (target_in (net (view l.table.bytes.now))) (map (circuit_on l.ports) (lines_left l.lines)));
}
