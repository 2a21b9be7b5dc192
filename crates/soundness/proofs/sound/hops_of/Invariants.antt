-- `soundness::sound::hops_of` meets its contract: the channels so far are counted.
use Prim.Native.Nat.{◌+◌, ◌*◌}
use Rattle.table.specs.View.{view}
use Rattle.soundness.specs.Counting.{Counted}
use Rattle.soundness.proofs.sound.hops_of.Given as goal

abbrev pub invariant-loop-k : goal.invariant-loop-k
invariant-loop-k g l = Counted g.L.Layout.PORTS (view l.table.bytes.now) (8 * l.n.0) (8 * l.n.0 + l.k) (g.M.Marks.of_node l.initial.seen) (g.M.Marks.of_node l.seen) l.hops
