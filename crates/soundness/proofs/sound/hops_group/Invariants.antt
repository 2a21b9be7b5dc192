-- `soundness::sound::hops_group` meets its contract: the nodes so far are counted.
use Prim.Native.Nat.{◌*◌}
use Rattle.table.specs.View.{view}
use Rattle.soundness.specs.Counting.{Counted}
use Rattle.soundness.proofs.sound.hops_group.Given as goal

abbrev pub invariant-loop-n : goal.invariant-loop-n
invariant-loop-n g l = Counted g.L.Layout.PORTS (view l.table.bytes.now) (8 * l.fn.from.0) (8 * l.n) (g.M.Marks.of_node l.initial.seen) (g.M.Marks.of_node l.seen) l.hops
