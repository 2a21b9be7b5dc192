-- `circuit_path::write_path_on` meets its contract: the port of the first hop, and behind it, port by port, what is left to follow.
use native.Mathlib.Omega.{arith}
use lib.ListN.{length-set}
use Rattle.layout.specs.Resources.{width_least}
use Rattle.circuit_path.proofs.Examine.{source_within}
use Rattle.circuit_path.proofs.Tracing.{at_node, every_port, hop_found, start_tracing, on_place, on_tracing, on_falls, end_tracing}
use Rattle.circuit_path.proofs.write_path_on.Goals as goal

pub unwrap-first-requires : goal.unwrap-first-requires
unwrap-first-requires g c = hop_found c.requires.has_source c.requires.board_here c.cube_ports-left.ensures c.source_of-source.ensures c.requires.c_value _ c.first_hop.ensures

pub loop-p-init : goal.loop-p-init
loop-p-init g c =
    let first = rw c.unwrap-first.ensures at c.first_hop.ensures in
    start_tracing c.requires.has_source c.requires.board_here c.cube_ports-left.ensures c.source_of-source.ensures c.requires.c_value first.0 first.1 c.neighbour-at.ensures _

pub first_hop-requires : goal.first_hop-requires
first_hop-requires g c =
    record { within = source_within (omega (arith, width_least g.met.L.Layout.laws.ports_are)) c.requires.has_source c.source_of-source.ensures; board_here = c.requires.board_here; vector_ports = every_port c.requires.has_source c.requires.board_here c.cube_ports-left.ensures c.source_of-source.ensures c.requires.c_value }

pub held_port-requires : goal.held_port-requires
held_port-requires g c =
    record { within = at_node (omega (arith, width_least g.met.L.Layout.laws.ports_are)) c.requires.has_source c.loop-p.invariant; board_here = c.requires.board_here; small = c.loop-p.invariant.vector_ports.below }

pub bounds-buffer-from : goal.bounds-buffer-from
bounds-buffer-from g c =
    omega (arith, c.from.ensures, on_place c.loop-p.invariant c.in-Some.ensures.0 c.in-Some.ensures.1, c.loop-p.invariant.long, length-set c.args.buffer.now 0 c.unwrap-first.result.0, c.requires.in_bounds)

pub overflow_add-hops : goal.overflow_add-hops
overflow_add-hops g c = omega (arith, on_place c.loop-p.invariant c.in-Some.ensures.0 c.in-Some.ensures.1)

pub loop-p-smaller : goal.loop-p-smaller
loop-p-smaller g c = on_falls c.loop-p.invariant c.in-Some.ensures.0 c.in-Some.ensures.1 c.axis_ports.ensures

pub loop-p-preserved : goal.loop-p-preserved
loop-p-preserved g c = rw c.from.ensures (on_tracing c.loop-p.invariant c.in-Some.ensures.0 c.in-Some.ensures.1 c.axis_ports.ensures c.neighbour-at-in-Some.ensures)

pub returns : goal.returns
returns g c =
    let first = rw c.unwrap-first.ensures at c.first_hop.ensures in
    let r = end_tracing c.requires.has_source c.requires.board_here c.cube_ports-left.ensures c.source_of-source.ensures c.requires.c_value first.0 first.1 c.neighbour-at.ensures _ c.requires.in_bounds
    c.loop-p.invariant c.in_default.ensures in
    record { hops_value = r.0; few = r.1; end_value = r.2.0; buffer_after = r.2.1 }
