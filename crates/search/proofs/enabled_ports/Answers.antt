-- `search::enabled_ports` meets its contract: the ports of the vector whose bits the mask of the node has.
use Rattle.search.proofs.Narrow.{enabled_narrow, enabled_all}
use Rattle.search.proofs.enabled_ports.Goals as goal

pub returns : goal.returns
returns g c =
    let b = c.args.t.now in
    let mask = c.enable_bits.ensures in (
      enabled_narrow g.met.L.Layout.laws b c.args.n.0 c.args.vector c.enable_bits.result c.requires mask.0 mask.1,
      enabled_all g.met.L.Layout.laws b c.args.n.0 c.args.vector c.enable_bits.result c.requires mask.0 mask.1,
    )
