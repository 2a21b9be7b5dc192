-- `circuit_path::held_port` meets its contract: the lowest from p on is the lowest of all.
use mathlib.Core.Path.{◌≡◌}
use Prim.Native.Nat.{◌-◌}
use Rattle.common.specs.Lists.{lowest}
use Rattle.table.specs.View.{view}
use Rattle.circuit_path.specs.Follow.{holds_port}
use Rattle.circuit_path.proofs.held_port.Given as goal

abbrev pub invariant-loop-p : goal.invariant-loop-p
invariant-loop-p g l = lowest (holds_port (view l.t) l.c.0 l.n.0 l.vector) (g.B.Board.width - l.p) l.p ≡ lowest (holds_port (view l.t) l.c.0 l.n.0 l.vector) g.B.Board.width 0
