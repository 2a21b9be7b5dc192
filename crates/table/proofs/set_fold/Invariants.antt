-- `table::set_fold` meets its contract: the masks of the nodes before this one are changed.
use Prim.Native.Nat.{ℕ, ◌<◌}
use lib.ListN.{get_or}
use Rattle.table.proofs.Folds.{Folding}
use Rattle.table.proofs.set_fold.Given as goal

abbrev pub invariant-loop-node : goal.invariant-loop-node
invariant-loop-node l = Folding l.fn.t l.fold l.kept l.added l.node l.t × ((i : ℕ) → get_or l.t i 0 < 256)
