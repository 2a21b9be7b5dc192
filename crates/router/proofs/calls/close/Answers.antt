-- `router::calls::close` meets its contract: the circuit that it frees has a source in the cube, and the bytes are those of the definition.
use Rattle.std.proofs.Common.{arith}
use Rattle.call_tests.proofs.Stopping.{close_source}
use Rattle.router.proofs.TableStep.{call_closes}
use Rattle.router.proofs.calls.close.Goals as goal

pub release-requires-clause-has_source : goal.release-requires-clause-has_source
release-requires-clause-has_source g c = close_source g.met.L.Layout.laws c.args.source.0 c.args.channel c.in_ok-close.ensures c.circuit_of.ensures

pub returns : goal.returns
returns g c =
    call_closes g.met.L.Layout.laws.ports_are c.args.t.now c.args.source.0 c.args.channel c.in_ok-close.ensures (λ k. omega (arith, c.slice_known-1.given k)) c.circuit_of.ensures c.release.ensures
