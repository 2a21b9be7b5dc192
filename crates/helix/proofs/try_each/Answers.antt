-- `helix::try_each` meets its contract: the ports of the vector, with the partners of those that are folded.
use mathlib.Core.Path.{◌∙◌}
use Rattle.cube.proofs.Order.{byte_vector}
use Rattle.helix.proofs.HelixSends.{may_each, each_sent}
use Rattle.helix.proofs.try_each.Goals as goal

pub with_partners-ports-requires : goal.with_partners-ports-requires
with_partners-ports-requires g c = rw c.from.ensures (byte_vector c.requires.may_send.fits c.requires.may_send.ports)

pub try_ports-requires : goal.try_ports-requires
try_ports-requires g c =
    let last = g.met.B.Board.laws.last in
    record { may_try_paths = may_each g.B.Board.SEND_ARRIVAL c.requires.may_send c.requires.board_of last c.from.ensures c.with_partners-ports.ensures }

pub returns : goal.returns
returns g c =
    let last = g.met.B.Board.laws.last in
    c.try_ports.ensures ∙ each_sent g.B.Board.SEND_ARRIVAL c.requires.may_send c.requires.board_of last c.from.ensures c.with_partners-ports.ensures
