-- The measures of the search, and what its loop keeps.
use Rattle.std.proofs.Common.{◌+◌, ◌*◌}
use Rattle.answers.specs.PassOnBytes.{hops_left}
use Rattle.search.specs.SearchContracts.{farthest_after, receive_as}
use Rattle.search.proofs.PortsTried.{PortsTried}
use Rattle.search.proofs.Search.+arrive_try_in_turn_try_ports.Given as goal

abbrev pub decreases-arrive : goal.decreases-arrive
decreases-arrive g l = 3 * hops_left l.t.now l.self.now.target.0 l.at.0

abbrev pub decreases-try_in_turn : goal.decreases-try_in_turn
decreases-try_in_turn g l = 3 * farthest_after l.t.now l.self.now.target.0 l.at.0 l.vector + 1

abbrev pub decreases-try_ports : goal.decreases-try_ports
decreases-try_ports g l = 3 * farthest_after l.t.now l.self.now.target.0 l.at.0 l.vector + 2

abbrev pub invariant-try_in_turn-loop-left : goal.invariant-try_in_turn-loop-left
invariant-try_in_turn-loop-left g l = PortsTried g.B.Board.width l.initial.t l.self.target.0 l.self.circuit.0 (receive_as l.self.receive) l.at.0 l.vector l.arrival.0 l.hops l.initial.scouts l.t l.left l.scouts

abbrev pub decreases-try_in_turn-loop-left : goal.decreases-try_in_turn-loop-left
decreases-try_in_turn-loop-left g l = l.left
