-- `table::held_enabled` meets its contract: the mask of the node has every entry of its row that is not zero.
use Rattle.table.proofs.Rows.{covers_node}
use Rattle.table.proofs.held_enabled.Goals as goal

pub returns : goal.returns
returns g c =
    let laws = g.met.H.Resource.laws in
    let b = c.args.t.now in
    rw (laws.owner_is b c.requires.bytes, laws.enabled_is b c.requires.bytes)
    (covers_node g.H.Resource.WIDTH laws.width_is b c.args.n.0 g.H.Resource.ROWS g.H.Resource.MASKS c.mask_place.result c.mask.result c.requires.node c.node_row.ensures.0 c.mask_place.ensures.0 c.mask.ensures.0 c.mask_covers.ensures)
