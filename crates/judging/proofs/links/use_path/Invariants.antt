-- `judging::links::use_path` meets its contract: what uses the links left, from where the loop stands, uses all of the path.
use mathlib.Core.Bool.{Bool}
use mathlib.Core.List.{List}
use Prim.Native.Nat.{ℕ}
use lib.ListN.{drop}
use Rattle.cube.specs.Cube.{NodeOf}
use Rattle.paths.specs.Network.{links}
use Rattle.layout.specs.Layout.{dimension_at}
use Rattle.table.specs.View.{view, net}
use Rattle.answers.specs.SendOnTable.{free_in}
use Rattle.judging.specs.JudgeContracts.{UsesLinks}
use Rattle.judging.proofs.links.use_path.Given as goal

abbrev pub invariant-loop-port : goal.invariant-loop-port
invariant-loop-port g l = record {
  inside : NodeOf (dimension_at l.table.bytes.now) l.at.0;
  goes_on : (new : List ℕ) (result : Bool)
      → UsesLinks (free_in (view l.table.bytes.now)) l.used.of_node new (links (net (view l.table.bytes.now)) l.at.0 (drop l.port-index l.path)) result
      → UsesLinks (free_in (view l.table.bytes.now)) l.initial.used.of_node new (links (net (view l.table.bytes.now)) l.initial.at.0 l.path) result;
}
