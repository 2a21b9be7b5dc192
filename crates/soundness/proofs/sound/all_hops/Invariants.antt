-- `soundness::sound::all_hops` meets its contract: the groups so far are counted.
use Prim.Native.Nat.{◌*◌}
use Rattle.table.specs.View.{view}
use Rattle.soundness.specs.Counting.{Counted}
use Rattle.soundness.proofs.sound.all_hops.Given as goal

abbrev pub invariant-loop-i : goal.invariant-loop-i
invariant-loop-i g l = Counted g.L.Layout.PORTS (view l.table.bytes.now) 0 (128 * l.i) (g.M.Marks.of_node l.initial.seen) (g.M.Marks.of_node l.seen) l.hops
