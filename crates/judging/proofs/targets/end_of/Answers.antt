-- `judging::targets::end_of` meets its contract: what is left of the path leads where all of it does.
use Rattle.judging.proofs.Following.{end_on, end_reached}
use Rattle.judging.proofs.targets.end_of.Goals as goal

pub neighbour-at-requires : goal.neighbour-at-requires
neighbour-at-requires g c = rw c.from.ensures (c.board_of-board.ensures.room _ (c.requires c.loop-port.port-index c.loop-port-test.true))

pub loop-port-preserved : goal.loop-port-preserved
loop-port-preserved g c = end_on c.loop-port.invariant c.loop-port-test.true c.from.ensures c.neighbour-at.ensures

pub returns : goal.returns
returns g c = end_reached c.loop-port.invariant c.loop-port-test.false
