-- `entries::enabled` meets its contract: the bit of the mask is the bit of the table.
use native.Mathlib.Omega.{arith}
use Rattle.layout.proofs.Entries.{mask_read}
use Rattle.entries.proofs.enabled.Goals as goal

pub returns : goal.returns
returns g c =
    let laws = g.met.H.Resource.laws in
    rw (laws.enabled_is c.args.t.now c.requires.bytes)
    (mask_read g.H.Resource.WIDTH c.args.t.now c.args.n.0 (g.H.Resource.index c.args.place) g.H.Resource.MASKS c.mask_place.result c.mask.result c.index.result c.mask_place.ensures.0 c.mask.ensures.0 c.index.ensures
    laws.width_is c.requires.node c.requires.port c.mask_bit.ensures)
