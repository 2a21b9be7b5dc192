-- `layout::mask_covers` meets its contract: the entries that are zero and those that the mask has are all of them.
use Rattle.layout.proofs.Rows.{mask_decides, all_bits}
use Rattle.layout.proofs.mask_covers.Goals as goal

pub returns : goal.returns
returns g c =
    let width = g.met.H.Resource.laws.width_is in
    mask_decides g.H.Resource.WIDTH width c.args.row.now c.row_vector.result c.args.mask c.row_vector.ensures _ (all_bits c.WIDTH.result width c.WIDTH.ensures)
