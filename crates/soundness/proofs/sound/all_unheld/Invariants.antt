-- `soundness::sound::all_unheld` meets its contract: the groups so far are counted.
use Prim.Native.Nat.{◌*◌}
use Rattle.table.specs.View.{view}
use Rattle.soundness.specs.Counting.{UnheldCounted}
use Rattle.soundness.proofs.sound.all_unheld.Given as goal

abbrev pub invariant-loop-i : goal.invariant-loop-i
invariant-loop-i g l = UnheldCounted g.L.Layout.PORTS (view l.table.bytes.now) 0 (16 * l.i) l.unheld
