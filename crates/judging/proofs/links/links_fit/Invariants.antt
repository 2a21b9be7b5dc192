-- `judging::links::links_fit` meets its contract: where the links of the lines left are used, those of all lines fit.
use mathlib.Core.Path.{◌≡◌}
use mathlib.Core.Bool.{Bool}
use mathlib.Core.List.{List, [], map}
use Prim.Native.Nat.{ℕ}
use Rattle.table.specs.View.{view, shape_of, net}
use Rattle.answers.specs.SendOnTable.{free_in}
use Rattle.book.specs.BookContracts.{lines_left}
use Rattle.judging.specs.Judged.{circuit_on, links_fit, all_links}
use Rattle.judging.specs.JudgeContracts.{LinesInCube, UsesLinks}
use Rattle.judging.proofs.links.links_fit.Given as goal

abbrev pub invariant-loop-line : goal.invariant-loop-line
invariant-loop-line g l = record {
  in_cube : LinesInCube (shape_of (view l.table.bytes.now)) l.ports (lines_left l.line-iterator);
  goes_on : (new : List ℕ) (result : Bool)
      → UsesLinks (free_in (view l.table.bytes.now)) l.used.of_node new (all_links (net (view l.table.bytes.now)) (map (circuit_on l.ports) (lines_left l.line-iterator))) result
      → result ≡ links_fit (free_in (view l.table.bytes.now)) [] (all_links (net (view l.table.bytes.now)) (map (circuit_on l.ports) (lines_left l.lines)));
}
