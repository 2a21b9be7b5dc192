-- `helix::first_free` meets its contract: the ports that are still to come give the whole.
use Rattle.cube.specs.PortsLeft.{ports_left}
use Rattle.helix.proofs.HelixSends.{PathsTried}
use Rattle.helix.proofs.first_free.Given as goal

abbrev pub invariant-loop-port : goal.invariant-loop-port
invariant-loop-port g l = PathsTried l.t l.request.source.0 l.request.target.0 l.fn.ports l.scouts (ports_left l.port-iterator)
