-- `circuit_hops::walk` meets its contract: what the rest of the way comes to, the whole way comes to.
use Prim.Native.Nat.{ℕ, ◌+◌, ◌≤◌}
use Rattle.std.proofs.Common.{Option}
use Rattle.cube.specs.Cube.{NodeOf}
use Rattle.layout.specs.Layout.{dimension_at}
use Rattle.table.specs.View.{view, net}
use Rattle.circuit_hops.specs.CountHops.{Walks}
use Rattle.circuit_hops.proofs.walk.Given as goal

abbrev pub invariant-loop-c : goal.invariant-loop-c
invariant-loop-c g l =
    NodeOf (dimension_at l.table.bytes.now) l.at.0 × (l.hops + (net (view l.table.bytes.now)).distance l.end.0 l.at.0 ≤ 9)
    × ((r : Option ℕ) → Walks (view l.table.bytes.now) l.c.0 l.end.0 l.at.0 l.hops r → Walks (view l.table.bytes.now) l.c.0 l.end.0 l.initial.at.0 l.initial.hops r)

abbrev pub decreases-loop-c : goal.decreases-loop-c
decreases-loop-c g l = (net (view l.table.bytes.now)).distance l.end.0 l.at.0
