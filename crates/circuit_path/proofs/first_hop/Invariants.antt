-- `circuit_path::first_hop` meets its contract: a port whose way back is held too, or else the lowest that was found.
use mathlib.Core.Path.{◌≡◌}
use Prim.Native.Nat.{◌-◌}
use Rattle.common.specs.Lists.{lowest}
use Rattle.table.specs.View.{view}
use Rattle.circuit_path.specs.Follow.{holds_port, comes_back}
use Rattle.circuit_path.proofs.Hops.{Found}
use Rattle.circuit_path.proofs.first_hop.Given as goal

abbrev pub invariant-loop-p : goal.invariant-loop-p
invariant-loop-p g l = record {
  back : lowest (comes_back g.B.Board.width (view l.t) l.c.0 l.s.0 l.vector) (g.B.Board.width - l.p) l.p ≡ lowest (comes_back g.B.Board.width (view l.t) l.c.0 l.s.0 l.vector) g.B.Board.width 0;
  taken : Found g.B.Board.width (holds_port (view l.t) l.c.0 l.s.0 l.vector) l.p l.found;
}
