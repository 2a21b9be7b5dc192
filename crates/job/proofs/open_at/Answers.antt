-- `job::open_at` meets its contract: its send may be tried, and what the search comes to is what the single call gives.
use mathlib.Core.Path.{refl}
use Rattle.std.proofs.Common.{arith}
use Rattle.call_tests.proofs.Stopping.{open_sends}
use Rattle.job.proofs.SendsInTurn.{send_stopped, open_accepted, open_rejected}
use Rattle.job.proofs.open_at.Goals as goal

pub send-requires-clause-may_send : goal.send-requires-clause-may_send
send-requires-clause-may_send g c =
    let x = c.read_send-x.result in
    rw c.request.ensures
    (open_sends g.met.L.Layout.laws x.source.0 x.channel x.target.0 x.routing x.vector
    (send_stopped g.L.Layout.PORTS c.args.t.now c.args.sends.now c.args.place x c.requires.may_open.tests c.in_ok-open_arguments.ensures) refl)

pub returns-in-Ok : goal.returns-in-Ok
returns-in-Ok g c =
    open_accepted g.L.Layout.PORTS c.args.t.now c.args.sends.now c.args.place c.read_send-x.result c.requires.may_open.tests c.read_send-x.ensures g.met.L.Layout.laws.ports_are
    c.in_ok-open_arguments.ensures (λ k. omega (arith, c.slice_known-1.given k)) c.in-Ok.field-0 (rw c.request.ensures at c.in-Ok.ensures)

pub returns-in-Err : goal.returns-in-Err
returns-in-Err g c =
    open_rejected g.L.Layout.PORTS c.args.t.now c.args.sends.now c.args.place c.read_send-x.result c.requires.may_open.tests c.read_send-x.ensures g.met.L.Layout.laws.ports_are
    c.in_ok-open_arguments.ensures (λ k. omega (arith, c.slice_known-1.given k)) c.in-Err.rejected (rw c.request.ensures at c.in-Err.ensures)
