-- `router::calls::trace` meets its contract: the circuit that it follows has a source in the cube, and the path written is that of the definition.
use Rattle.std.proofs.Common.{arith}
use Rattle.call_tests.proofs.Stopping.{trace_closes, close_source}
use Rattle.router.proofs.TableStep.{call_traces}
use Rattle.router.proofs.calls.trace.Goals as goal

pub write_path-requires-clause-has_source : goal.write_path-requires-clause-has_source
write_path-requires-clause-has_source g c =
    close_source g.met.L.Layout.laws c.args.source.0 c.args.channel (trace_closes _ _ _ _ c.args.buffer.now c.in_ok-trace.ensures) c.circuit_of.ensures

pub returns : goal.returns
returns g c =
    call_traces g.met.L.Layout.laws.ports_are c.args.t.now c.args.source.0 c.args.channel c.args.buffer.now c.in_ok-trace.ensures (λ k. omega (arith, c.type_inv.t k))
    c.circuit_of.ensures c.write_path.ensures.hops_value c.write_path.ensures.buffer_after
