-- `circuit_path::write_path_on` meets its contract: the port of the first hop, and behind it, port by port, what is left to follow.
use lib.ListN.{length}
use Rattle.cube.specs.Helical.{ports_of}
use Rattle.table.specs.View.{view}
use Rattle.circuit_path.proofs.Tracing.{Tracing}
use Rattle.circuit_path.proofs.write_path_on.Given as goal

abbrev pub invariant-loop-p : goal.invariant-loop-p
invariant-loop-p g l = Tracing g.B.Board.width (view l.t) l.c.0 l.initial.buffer l.initial.left l.initial.at.0 l.buffer l.left l.at.0 l.hops

abbrev pub decreases-loop-p : goal.decreases-loop-p
decreases-loop-p g l = length (ports_of g.B.Board.width l.left)
