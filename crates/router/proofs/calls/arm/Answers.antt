-- `router::calls::arm` meets its contract: the receive channel lies in the table, and the bytes are those of the definition.
use Rattle.std.proofs.Common.{arith}
use Rattle.call_tests.proofs.Stopping.{arm_within}
use Rattle.router.proofs.TableStep.{call_arms}
use Rattle.router.proofs.calls.arm.Goals as goal

pub set_enabled-requires : goal.set_enabled-requires
set_enabled-requires g c = arm_within g.met.L.Layout.laws c.in_ok-arm.ensures

pub returns : goal.returns
returns g c =
    call_arms g.met.L.Layout.laws.ports_are c.args.t.now c.args.node.0 c.args.channel c.in_ok-arm.ensures (λ k. omega (arith, c.slice_known-1.given k)) c.set_enabled.ensures
