-- `converting::parts::copy_channels` meets its contract: the bytes to the end.
use mathlib.Core.Path.{refl, ◌∙◌, sym}
use native.Mathlib.Omega.{arith}
use lib.ListN.{length}
use Prim.Native.Nat.{◌-◌}
use Rattle.layout.proofs.Parts.{part_long}
use Rattle.converting.proofs.Copied.{channels_copied}
use Rattle.converting.proofs.parts.copy_channels.Goals as goal

pub copy-requires : goal.copy-requires
copy-requires g c =
    let laws = g.met.F.Layout.laws in
    let laws' = g.met.L.Layout.laws in
    let long = part_long c.args.from.now c.RECEIVES.result (length c.args.from.now - c.RECEIVES.result) (omega (arith, c.RECEIVES.ensures, c.requires.0, laws.long_is, laws.receives_is)) in
    let long' = part_long c.args.to.now c.RECEIVES-2.result (length c.args.to.now - c.RECEIVES-2.result) (omega (arith, c.RECEIVES-2.ensures, c.requires.1, laws'.long_is, laws'.receives_is)) in
    long' ∙ omega (arith, c.RECEIVES.ensures, c.RECEIVES-2.ensures, c.requires, laws.long_is, laws.receives_is, laws'.long_is, laws'.receives_is) ∙ sym long

pub returns : goal.returns
returns g c =
    let laws = g.met.F.Layout.laws in
    let laws' = g.met.L.Layout.laws in
    channels_copied c.args.from.now c.args.to.now c.copy.new.to c.RECEIVES.result c.RECEIVES-2.result (length c.args.from.now - c.RECEIVES.result) (length c.args.to.now - c.RECEIVES-2.result) _ _
    c.RECEIVES.ensures c.RECEIVES-2.ensures (omega (arith, c.requires.1, laws'.long_is, laws'.receives_is)) (omega (arith, c.requires.0, laws.long_is, laws.receives_is)) refl c.copy.ensures
