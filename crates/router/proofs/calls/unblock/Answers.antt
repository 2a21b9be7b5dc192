-- `router::calls::unblock` meets its contract: the link lies in the table, and the bytes are those of the definition.
use Rattle.std.proofs.Common.{arith}
use Rattle.call_tests.proofs.Stopping.{unblock_within}
use Rattle.router.proofs.TableStep.{call_unblocks}
use Rattle.router.proofs.calls.unblock.Goals as goal

pub set_enabled-requires : goal.set_enabled-requires
set_enabled-requires g c = unblock_within g.met.L.Layout.laws c.in_ok-unblock.ensures

pub returns : goal.returns
returns g c =
    call_unblocks g.met.L.Layout.laws.ports_are c.args.t.now c.args.node.0 c.args.port.0 c.in_ok-unblock.ensures (λ k. omega (arith, c.slice_known-1.given k)) c.set_enabled.ensures
