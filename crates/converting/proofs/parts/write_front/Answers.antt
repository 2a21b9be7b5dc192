-- `converting::parts::write_front` meets its contract: the dimension, and zeros up to the masks.
use Rattle.std.proofs.Common.{rules, arith, ◌≡◌, length}
use lib.ListN.{replicate}
use Rattle.converting.proofs.Copied.{front_written}
use Rattle.converting.proofs.parts.write_front.Goals as goal

pub returns : goal.returns
returns g c =
    let laws = g.met.L.Layout.laws in
    let zeros : c.fill.new.self ≡ replicate (length c.fill.new.self) 0 = search rules in
    front_written c.args.to.now c.args.dimension c.fill.new.self (omega (arith, laws.long_is, c.requires)) (omega (arith, c.ENABLE.ensures, laws.enable_is)) (omega (arith, c.ENABLE.ensures, laws.enable_is, laws.long_is, c.requires)) zeros c.fill.auto.self
