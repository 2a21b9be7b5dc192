-- `soundness::sound::received_hops` meets its contract: no node is marked at first.
use mathlib.Core.Path.{subst}
use mathlib.Core.List.{List}
use Prim.Native.Nat.{ℕ, ◌*◌}
use Rattle.cube.specs.Cube.{channels}
use Rattle.table.specs.View.{view}
use Rattle.soundness.specs.Counting.{Counts}
use Rattle.soundness.proofs.sound.received_hops.Goals as goal

pub returns-then-PORTS-le8 : goal.returns-then-PORTS-le8
returns-then-PORTS-le8 g c =
    let after = c.all_hops.new.seen.of_node in
    (after, subst (λ (m : List ℕ). Counts g.L.Layout.PORTS (view c.args.table.now.bytes.now) 0 (channels * 256) m after c.all_hops.result) c.new.ensures c.all_hops.ensures)

pub returns-else-PORTS-le8 : goal.returns-else-PORTS-le8
returns-else-PORTS-le8 g c =
    let after = c.all_hops-else-PORTS-le8.new.seen.of_node in
    (after, subst (λ (m : List ℕ). Counts g.L.Layout.PORTS (view c.args.table.now.bytes.now) 0 (channels * 256) m after c.all_hops-else-PORTS-le8.result) c.new-else-PORTS-le8.ensures c.all_hops-else-PORTS-le8.ensures)
