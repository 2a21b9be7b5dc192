-- `router::calls::block` meets its contract: the link lies in the table, and the bytes are those of the definition.
use Rattle.std.proofs.Common.{arith}
use Rattle.call_tests.proofs.Stopping.{block_within}
use Rattle.router.proofs.TableStep.{call_blocks}
use Rattle.router.proofs.calls.block.Goals as goal

pub set_enabled-requires : goal.set_enabled-requires
set_enabled-requires g c = block_within g.met.L.Layout.laws c.in_ok-block.ensures

pub returns : goal.returns
returns g c =
    call_blocks g.met.L.Layout.laws.ports_are c.args.t.now c.args.node.0 c.args.port.0 c.in_ok-block.ensures (λ k. omega (arith, c.slice_known-1.given k)) c.set_enabled.ensures
