-- `converting::parts::write` meets its contract: the parts one after another show what the table read shows.
use native.Mathlib.Omega.{arith}
use Rattle.converting.proofs.Copied.{masks_fit, copied_encoded}
use Rattle.converting.proofs.parts.write.Goals as goal

pub copy_masks-requires-clause-fit : goal.copy_masks-requires-clause-fit
copy_masks-requires-clause-fit g c = masks_fit g.met.F.Layout.laws c.args.from.now c.requires.1 c.requires.0

pub returns : goal.returns
returns g c =
    copied_encoded g.met.F.Layout.laws g.met.L.Layout.laws c.args.from.now c.requires.1 c.requires.0 c.write_front.ensures c.copy_masks.ensures c.copy_links.ensures c.copy_channels.ensures
    (omega arith) (λ i. omega (arith, c.type_inv.to i))
