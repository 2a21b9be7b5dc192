-- `table::links_held` meets its contract: the row of its links is counted.
use mathlib.Core.Path.{◌∙◌}
use Rattle.layout.specs.Resources.{links_laws}
use Rattle.table.proofs.Rows.{links_count}
use Rattle.table.proofs.links_held.Goals as goal

pub returns : goal.returns
returns g c =
    let laws = links_laws g.met.L.Layout.laws in
    c.row_count.ensures ∙ links_count g.L.Layout.PORTS g.L.Layout.LINKS c.args.t.now c.args.n.0 c.args.c.0 c.node_row.result.now c.requires.node c.node_row.ensures.0 (laws.owner_is c.args.t.now c.requires.bytes)
