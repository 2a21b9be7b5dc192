-- `entries::set_enabled` meets its contract: the mask is written with its bit set or cleared.
use native.Mathlib.Omega.{arith}
use mathlib.Core.Path.{◌∙◌}
use Rattle.layout.proofs.Entries.{mask_written, mask_fits}
use Rattle.entries.proofs.set_enabled.Goals as goal

pub put_mask-requires : goal.put_mask-requires
put_mask-requires g c =
    let laws = g.met.H.Resource.laws in (
      omega arith,
      mask_fits g.H.Resource.WIDTH c.args.t.now c.args.n.0 (g.H.Resource.index c.args.place) g.H.Resource.MASKS c.mask_place-at.result c.mask.result c.index.result c.mask_place-at.ensures.0 c.mask.ensures.0 c.index.ensures
          laws.width_is c.requires.port c.mask.ensures.1 c.mask_with-mask.result c.args.on c.mask_with-mask.ensures,
    )

pub returns : goal.returns
returns g c =
    let laws = g.met.H.Resource.laws in
    rw (laws.put_enabled_is c.args.t.now c.requires.bytes)
    (c.put_mask.ensures ∙ mask_written g.H.Resource.WIDTH c.args.t.now c.args.n.0 (g.H.Resource.index c.args.place) g.H.Resource.MASKS c.mask_place-at.result c.mask.result c.index.result c.mask_place-at.ensures.0 c.mask.ensures.0 c.index.ensures
    c.mask_with-mask.result c.args.on c.mask_with-mask.ensures)
