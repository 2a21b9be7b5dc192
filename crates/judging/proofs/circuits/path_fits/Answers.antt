-- `judging::circuits::path_fits` meets its contract: of the ports behind the first hop, those to come pass where all do.
use mathlib.Core.Path.{refl, sym, ◌∙◌}
use Rattle.table.specs.View.{view, shape_of}
use Rattle.judging.proofs.AxesOnce.{first_missing, later_decide, once_start, once_on, once_stopped, once_reached, port_position}
use Rattle.judging.proofs.circuits.path_fits.Goals as goal

pub returns-then-not-has_port : goal.returns-then-not-has_port
returns-then-not-has_port g c = first_missing (shape_of (view c.args.table.now.bytes.now)) c.cube_ports-left.ensures c.args.path.now c.requires refl (sym c.has_port.ensures ∙ c.if-not-has_port.true)

pub loop-port-init : goal.loop-port-init
loop-port-init g c = once_start c.cube_ports-left.ensures

pub returns-then-not-has_port-2 : goal.returns-then-not-has_port-2
returns-then-not-has_port-2 g c =
    later_decide (shape_of (view c.args.table.now.bytes.now)) c.cube_ports-left.ensures c.args.path.now c.requires refl (sym c.has_port.ensures ∙ c.if-not-has_port.false)
    (once_stopped c.loop-port.invariant c.loop-port-test.true refl (sym c.has_port-in-loop-port.ensures ∙ c.if-not-has_port-2.true))

pub axis_ports-requires : goal.axis_ports-requires
axis_ports-requires g c = rw c.from.ensures (port_position c.loop-port.invariant (sym c.has_port-in-loop-port.ensures ∙ c.if-not-has_port-2.false))

pub loop-port-preserved : goal.loop-port-preserved
loop-port-preserved g c =
    once_on c.loop-port.invariant c.loop-port-test.true c.from.ensures (rw c.from.ensures (sym c.has_port-in-loop-port.ensures ∙ c.if-not-has_port-2.false)) c.axis_ports.ensures refl

pub returns : goal.returns
returns g c =
    later_decide (shape_of (view c.args.table.now.bytes.now)) c.cube_ports-left.ensures c.args.path.now c.requires refl (sym c.has_port.ensures ∙ c.if-not-has_port.false)
    (once_reached c.loop-port.invariant c.loop-port-test.false)
