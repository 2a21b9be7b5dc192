-- `search::maze` meets its contract: a pass from the source over its enabled ports, and the receive channel taken where it is acknowledged.
use mathlib.Core.Path.{◌≡◌, refl, sym, ap, ◌∙◌}
use native.Mathlib.Omega.{arith}
use Rattle.std.specs.Prelude.{Some}
use Rattle.std.proofs.lemmas.Result.{err_from_is_err_and, IfErr-at_err}
use Rattle.search.specs.SearchContracts.{search_answer}
use Rattle.table.specs.View.{view}
use Rattle.cube.proofs.Order.{byte_vector}
use Rattle.search.proofs.Narrow.{narrow_may}
use Rattle.search.proofs.Sends.{may_try, told_channel, maze_taken, maze_rejected}
use Rattle.search.proofs.maze.Goals as goal

pub try_in_turn-found-requires : goal.try_in_turn-found-requires
try_in_turn-found-requires g c =
    record { may_try = narrow_may (may_try c.SEND_ARRIVAL.result c.requires.may_send c.requires.board_of (omega (arith, c.SEND_ARRIVAL.ensures, g.met.B.Board.laws.last)) c.from.ensures c.with_partners-vector.ensures) c.enabled_ports-ports.ensures.0; enabled = c.enabled_ports-ports.ensures.1 }

pub returns-in_err-hops : goal.returns-in_err-hops
returns-in_err-hops g c =
    let told = told_channel (view c.args.t.now) c.args.request.target.0 _ c.available_channel.ensures in
    let refused = rw c.in_err-hops.ensures.ok_part at c.in_err-hops.ensures.value in
    let p = err_from_is_err_and c.from_residual.result c.from_residual.ensures.1 in
    let said = ap (λ h. search_answer h c.available_channel.result c.try_in_turn-found.new.scouts c.try_in_turn-found.new.t) c.in_err-hops.ensures.ok_part in
    rw (p.1, IfErr-at_err (p.0 ≡◌) refused p.2) (maze_rejected c.SEND_ARRIVAL.result c.requires.may_send c.requires.board_of (omega (arith, c.SEND_ARRIVAL.ensures, g.met.B.Board.laws.last)) c.from.ensures c.with_partners-vector.ensures c.enabled_ports-ports.ensures.0 told (sym said ∙ c.try_in_turn-found.ensures) (λ z. omega (arith, z)))

pub returns-in_err-receive : goal.returns-in_err-receive
returns-in_err-receive g c =
    let told = told_channel (view c.args.t.now) c.args.request.target.0 _ c.available_channel.ensures in
    let refused = rw c.in_err-receive.ensures.ok_part at c.in_err-receive.ensures.value in
    let p = err_from_is_err_and c.from_residual-in_err-receive.result c.from_residual-in_err-receive.ensures.1 in
    let found = ap (λ h. search_answer h c.available_channel.result c.try_in_turn-found.new.scouts c.try_in_turn-found.new.t) c.in_ok-hops.ensures.ok_part in
    let said = found ∙ ap (λ k. search_answer (Some c.in_ok-hops.hops) k c.try_in_turn-found.new.scouts c.try_in_turn-found.new.t) c.in_err-receive.ensures.ok_part in
    rw (p.1, IfErr-at_err (p.0 ≡◌) refused p.2) (maze_rejected c.SEND_ARRIVAL.result c.requires.may_send c.requires.board_of (omega (arith, c.SEND_ARRIVAL.ensures, g.met.B.Board.laws.last)) c.from.ensures c.with_partners-vector.ensures c.enabled_ports-ports.ensures.0 told (sym said ∙ c.try_in_turn-found.ensures) (λ z. omega (arith, z)))

pub returns : goal.returns
returns g c =
    let told = told_channel (view c.args.t.now) c.args.request.target.0 _ c.available_channel.ensures in
    let found = ap (λ h. search_answer h c.available_channel.result c.try_in_turn-found.new.scouts c.try_in_turn-found.new.t) c.in_ok-hops.ensures.ok_part in
    let said = found ∙ ap (λ k. search_answer (Some c.in_ok-hops.hops) k c.try_in_turn-found.new.scouts c.try_in_turn-found.new.t) c.in_ok-receive.ensures.ok_part in
    maze_taken c.SEND_ARRIVAL.result c.requires.may_send c.requires.board_of (omega (arith, c.SEND_ARRIVAL.ensures, g.met.B.Board.laws.last)) c.from.ensures c.with_partners-vector.ensures c.enabled_ports-ports.ensures.0 told (sym said ∙ c.try_in_turn-found.ensures) refl c.set_owner.ensures

pub with_partners-vector-requires : goal.with_partners-vector-requires
with_partners-vector-requires g c = rw c.from.ensures (byte_vector c.requires.may_send.fits c.requires.may_send.ports)
