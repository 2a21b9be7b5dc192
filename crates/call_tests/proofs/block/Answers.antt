-- `call_tests::block` meets its contract: the link that it asks about lies in the table, and its tests passed.
use Rattle.call_tests.proofs.Stopping.{link_found}
use Rattle.call_tests.proofs.LinkHeld.{block_refused, block_allowed}
use Rattle.call_tests.proofs.block.Goals as goal

pub link_state-requires : goal.link_state-requires
link_state-requires g c =
    record { within = link_found g.met.L.Layout.laws c.args.node.0 c.in_ok-table.table.passed c.in_ok-node_exists.ensures c.in_ok-port_exists.ensures }

pub returns-in-Held : goal.returns-in-Held
returns-in-Held g c =
    rw (← c.in_ok-table.ensures.lent) (block_refused _ _ c.args.node.0 c.args.port.0 c.in_ok-table.table.passed c.in_ok-node_exists.ensures c.in_ok-port_exists.ensures c.in-Held.ensures)

pub returns-in-Free : goal.returns-in-Free
returns-in-Free g c =
    rw (← c.in_ok-table.ensures.lent) (block_allowed _ _ c.args.node.0 c.args.port.0 c.in_ok-table.table.passed c.in_ok-node_exists.ensures c.in_ok-port_exists.ensures c.link_state.ensures c.in-Free.is)
