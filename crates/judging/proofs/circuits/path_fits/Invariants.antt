-- `judging::circuits::path_fits` meets its contract: of the ports behind the first hop, those to come pass where all do.
use Rattle.table.specs.View.{view, shape_of}
use Rattle.judging.proofs.AxesOnce.{OnceLeft}
use Rattle.judging.proofs.circuits.path_fits.Given as goal

abbrev pub invariant-loop-port : goal.invariant-loop-port
invariant-loop-port g l = OnceLeft (shape_of (view l.table.bytes.now)) g.L.Board.Board.width l.left l.later l.port-index
