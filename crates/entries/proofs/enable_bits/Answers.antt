-- `entries::enable_bits` meets its contract: the mask is that of a table of its layout.
use Rattle.entries.proofs.EnableBits.{enable_number}
use Rattle.entries.proofs.enable_bits.Goals as goal

pub returns : goal.returns
returns g c =
    (enable_number g.met.L.Layout.laws c.args.t.now c.args.n.0 c.requires.bytes c.mask_place.ensures.0 c.mask.ensures.0, c.mask.ensures.1)
