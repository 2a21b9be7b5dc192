-- `call_tests::disarm` meets its contract: the receive channel that it asks about lies in the table.
use Rattle.call_tests.proofs.Stopping.{receive_found}
use Rattle.call_tests.proofs.disarm.Goals as goal

pub owner-requires : goal.owner-requires
owner-requires g c =
    receive_found g.met.L.Layout.laws c.args.node.0 c.in_ok-table.table.passed c.in_ok-node_exists.ensures c.in_ok-channel_exists.ensures
