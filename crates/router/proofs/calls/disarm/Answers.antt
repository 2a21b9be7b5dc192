-- `router::calls::disarm` meets its contract: the receive channel lies in the table, and the bytes are those of the definition.
use Rattle.std.proofs.Common.{arith}
use Rattle.call_tests.proofs.Stopping.{disarm_within}
use Rattle.router.proofs.TableStep.{call_disarms}
use Rattle.router.proofs.calls.disarm.Goals as goal

pub set_enabled-requires : goal.set_enabled-requires
set_enabled-requires g c = disarm_within g.met.L.Layout.laws c.in_ok-disarm.ensures

pub returns : goal.returns
returns g c =
    call_disarms g.met.L.Layout.laws.ports_are c.args.t.now c.args.node.0 c.args.channel c.in_ok-disarm.ensures (λ k. omega (arith, c.slice_known-1.given k)) c.set_enabled.ensures
