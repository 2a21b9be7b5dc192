-- `circuit_path::comes_back` meets its contract: the way back is over some port of the axis.
use mathlib.Core.Path.{sym, ◌∙◌}
use Rattle.circuit_path.proofs.Hops.{back_within, back_held, no_back}
use Rattle.circuit_path.proofs.comes_back.Goals as goal

pub some_held-requires : goal.some_held-requires
some_held-requires g c = back_within _ _ c.requires.within c.requires.board_here c.requires.vector_ports (sym c.holds_port.ensures ∙ c.if-holds_port.true) c.neighbour.ensures _

pub returns-then-holds_port : goal.returns-then-holds_port
returns-then-holds_port g c =
    back_held _ _ _ _ c.requires.board_here c.requires.vector_ports.below c.axis_ports.ensures c.neighbour.ensures (sym c.holds_port.ensures ∙ c.if-holds_port.true) c.some_held.ensures

pub returns-else-holds_port : goal.returns-else-holds_port
returns-else-holds_port g c = c.if-holds_port.false ∙ sym (no_back _ _ _ _ _ _ (sym c.holds_port.ensures ∙ c.if-holds_port.false))
