-- `table::ports_held` meets its contract: the row of its links is looked at.
use Rattle.layout.specs.Resources.{links_laws}
use Rattle.table.proofs.Rows.{links_vector}
use Rattle.table.proofs.ports_held.Goals as goal

pub returns : goal.returns
returns g c =
    let laws = links_laws g.met.L.Layout.laws in
    links_vector g.L.Layout.PORTS g.L.Layout.LINKS c.args.t.now c.args.n.0 c.args.c.0 c.node_row.result.now c.requires.node c.node_row.ensures.0 c.row_vector.result (laws.owner_is c.args.t.now c.requires.bytes) c.row_vector.ensures
