-- `helix::try_lowest` meets its contract: the port that is tried first, alone.
use mathlib.Core.Path.{◌∙◌}
use native.Mathlib.Omega.{arith}
use Rattle.cube.proofs.Order.{byte_vector}
use Rattle.cube.proofs.Ports.{port_bit}
use Rattle.helix.proofs.HelixSends.{some_wide, lowest_small, may_lowest, lowest_sent}
use Rattle.helix.proofs.try_lowest.Goals as goal

pub with_partners-ports-requires : goal.with_partners-ports-requires
with_partners-ports-requires g c = rw c.from.ensures (byte_vector c.requires.may_send.fits c.requires.may_send.ports)

pub first_port-lowest-requires : goal.first_port-lowest-requires
first_port-lowest-requires g c =
    let some = some_wide _ c.requires.may_send c.requires.board_of g.met.B.Board.laws.last c.from.ensures c.with_partners-ports.ensures c.requires.vector_nonzero in
    record { some = omega (arith, some); ports = c.with_partners-ports.ensures.1; port = omega (arith, c.SEND_ARRIVAL.ensures, g.met.B.Board.laws.last) }

pub overflow_shl-lowest : goal.overflow_shl-lowest
overflow_shl-lowest g c =
    let small = lowest_small c.SEND_ARRIVAL.result c.requires.may_send c.requires.board_of (omega (arith, c.SEND_ARRIVAL.ensures, g.met.B.Board.laws.last)) c.from.ensures c.with_partners-ports.ensures c.first_port-lowest.ensures in
    omega (arith, small, g.met.B.Board.laws.most)

pub try_ports-requires : goal.try_ports-requires
try_ports-requires g c =
    let small = lowest_small c.SEND_ARRIVAL.result c.requires.may_send c.requires.board_of (omega (arith, c.SEND_ARRIVAL.ensures, g.met.B.Board.laws.last)) c.from.ensures c.with_partners-ports.ensures c.first_port-lowest.ensures in
    record { may_try_paths = may_lowest c.SEND_ARRIVAL.result c.requires.may_send c.requires.board_of (omega (arith, c.SEND_ARRIVAL.ensures, g.met.B.Board.laws.last)) c.from.ensures c.with_partners-ports.ensures c.first_port-lowest.ensures (port_bit 32 c.first_port-lowest.result.0 (omega (arith, small, g.met.B.Board.laws.most))) }

pub returns : goal.returns
returns g c =
    let small = lowest_small c.SEND_ARRIVAL.result c.requires.may_send c.requires.board_of (omega (arith, c.SEND_ARRIVAL.ensures, g.met.B.Board.laws.last)) c.from.ensures c.with_partners-ports.ensures c.first_port-lowest.ensures in
    c.try_ports.ensures
    ∙ lowest_sent c.SEND_ARRIVAL.result c.requires.may_send c.requires.board_of (omega (arith, c.SEND_ARRIVAL.ensures, g.met.B.Board.laws.last)) c.from.ensures c.with_partners-ports.ensures c.first_port-lowest.ensures (port_bit 32 c.first_port-lowest.result.0 (omega (arith, small, g.met.B.Board.laws.most)))
