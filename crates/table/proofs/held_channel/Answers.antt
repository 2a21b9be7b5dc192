-- `table::held_channel` meets its contract: the lowest of the entries of its row that are the circuit's.
use mathlib.Core.Path.{◌∙◌, ap}
use Rattle.common.specs.SomeBelow.{some_below}
use Rattle.layout.specs.Resources.{channels_laws}
use Rattle.table.proofs.Rows.{channels_lowest}
use Rattle.table.proofs.held_channel.Goals as goal

pub returns : goal.returns
returns g c =
    let laws = channels_laws g.met.L.Layout.laws in
    c.lowest_of.ensures
    ∙ ap (some_below 8) (channels_lowest g.L.Layout.RECEIVES c.args.t.now c.args.n.0 c.args.c.0 c.node_row.result.now c.requires.node c.node_row.ensures.0 (laws.owner_is c.args.t.now c.requires.bytes) c.row_vector.result c.row_vector.ensures)
