-- `search::alternate_maze` meets its contract: a second pass over the other ports where the first is route rejected, on the same bytes.
use mathlib.Core.Path.{sym, ◌∙◌}
use native.Mathlib.Omega.{arith}
use Rattle.answers.proofs.Opens.{route_refusal, other_refusal}
use Rattle.search.proofs.Sends.{alternate_ended, board_again, may_again, few_scouts, alternate_again}
use Rattle.search.proofs.alternate_maze.Goals as goal

pub returns-in-Err-2 : goal.returns-in-Err-2
returns-in-Err-2 g c =
    alternate_ended c.requires.may_send c.in-Err.ensures (other_refusal _ (sym c.eq.ensures ∙ c.if-eq.false))

pub returns-in-Ok : goal.returns-in-Ok
returns-in-Ok g c = alternate_ended c.requires.may_send c.in-Ok.ensures (λ z. omega (arith, z))

pub maze-requires-2 : goal.maze-requires-2
maze-requires-2 g c =
    record { board_of = board_again c.requires.may_send c.in-Err.ensures c.dimension.ensures c.node_count.ensures (route_refusal _ c.if-eq.ensures) c.requires.board_of; may_send = may_again c.requires.may_send c.in-Err.ensures c.dimension.ensures c.node_count.ensures (route_refusal _ c.if-eq.ensures) }

pub overflow_add-result : goal.overflow_add-result
overflow_add-result g c =
    let few = few_scouts c.requires.may_send c.in-Err.ensures c.dimension.ensures c.node_count.ensures (route_refusal _ c.if-eq.ensures) c.in-Ok-maze.ensures in
    record { fits = omega (arith, few) }

pub overflow_add-result-in-Err-maze : goal.overflow_add-result-in-Err-maze
overflow_add-result-in-Err-maze g c =
    let few = few_scouts c.requires.may_send c.in-Err.ensures c.dimension.ensures c.node_count.ensures (route_refusal _ c.if-eq.ensures) c.in-Err-maze.ensures in
    record { fits = omega (arith, few) }

pub returns-in-Ok-maze : goal.returns-in-Ok-maze
returns-in-Ok-maze g c =
    alternate_again c.requires.may_send c.in-Err.ensures c.dimension.ensures c.node_count.ensures (route_refusal _ c.if-eq.ensures) c.in-Ok-maze.ensures

pub returns-in-Err-maze : goal.returns-in-Err-maze
returns-in-Err-maze g c =
    alternate_again c.requires.may_send c.in-Err.ensures c.dimension.ensures c.node_count.ensures (route_refusal _ c.if-eq.ensures) c.in-Err-maze.ensures
