-- `reach::AskedSend::any_path` meets its contract: an enabled port of the vector leads to a node that reaches the target.
use mathlib.Core.Path.{refl, ◌∙◌}
use Rattle.cube.proofs.Order.{byte_vector}
use Rattle.reach.proofs.Sweep.{marks_find, sweep_ports}
use Rattle.reach.proofs.AskedSend.any_path.Goals as goal

pub leads_on-requires : goal.leads_on-requires
leads_on-requires g c =
    let send = c.args.self.now in
    let p = send.may_ask in
    (byte_vector p.sweep.fits p.source, sweep_ports send.bytes.now send.request.target.0 p.sweep send.request.vector p.ports refl c.ports.ensures _)

pub returns : goal.returns
returns g c =
    let send = c.args.self.now in
    let p = send.may_ask in
    c.leads_on.ensures
    ∙ marks_find send.bytes.now send.request.target.0 p.sweep g.met.L.Layout.laws c.reaching-marks.result send.request.source.0 send.request.vector _ _ _
    c.reaching-marks.ensures p.source p.ports refl c.ports.ensures.0 c.enable_bits.ensures.0 c.enable_bits.ensures.1
