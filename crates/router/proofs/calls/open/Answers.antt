-- `router::calls::open` meets its contract: its send may be tried, and what the search comes to is what the call gives.
use mathlib.Core.Path.{refl}
use Rattle.std.proofs.Common.{arith}
use Rattle.call_tests.proofs.Stopping.{open_sends}
use Rattle.router.proofs.TableStep.{call_opens}
use Rattle.router.proofs.calls.open.Goals as goal

pub send-requires-clause-may_send : goal.send-requires-clause-may_send
send-requires-clause-may_send g c =
    let x = c.args.x in
    rw c.request.ensures (open_sends g.met.L.Layout.laws x.source.0 x.channel x.target.0 x.routing x.vector c.in_ok-open.ensures refl)

pub returns : goal.returns
returns g c =
    let x = c.args.x in
    call_opens g.met.L.Layout.laws.ports_are c.args.t.now x.source.0 x.channel x.target.0 x.routing x.vector c.in_ok-open.ensures (λ k. omega (arith, c.slice_known-1.given k)) refl c.send.result
    (rw c.request.ensures at c.send.ensures)
