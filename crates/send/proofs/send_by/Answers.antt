-- `send::send_by` meets its contract: the search of its type and, where that is route rejected, whether waiting helps.
use mathlib.Core.Path.{sym, ◌∙◌}
use native.Mathlib.Omega.{arith}
use Rattle.answers.proofs.Opens.{route_refusal, other_refusal}
use Rattle.send.proofs.ByWaiting.{may_ask_after, judged_kept, judged_helps, judged_blocked}
use Rattle.send.proofs.send_by.Goals as goal

pub returns-in-Err-2 : goal.returns-in-Err-2
returns-in-Err-2 g c =
    judged_kept _ _ _ _ _ _ c.in-Err.ensures (other_refusal _ (sym c.eq.ensures ∙ c.if-eq.false))

pub returns-in-Ok : goal.returns-in-Ok
returns-in-Ok g c =
    judged_kept _ _ _ _ _ _ c.in-Ok.ensures (λ z. omega (arith, z))

pub some_path_enabled-requires : goal.some_path_enabled-requires
some_path_enabled-requires g c =
    record { may_ask = may_ask_after _ _ _ _ _ _ c.in-Err.ensures c.requires.board_of c.requires.may_send (route_refusal _ c.if-eq.ensures) }

pub returns-then-some_path_enabled : goal.returns-then-some_path_enabled
returns-then-some_path_enabled g c =
    judged_helps _ _ _ _ _ _ c.in-Err.ensures (route_refusal _ c.if-eq.ensures) c.some_path_enabled.ensures c.if-some_path_enabled.true

pub returns : goal.returns
returns g c =
    judged_blocked _ _ _ _ _ _ c.in-Err.ensures (route_refusal _ c.if-eq.ensures) c.some_path_enabled.ensures c.if-some_path_enabled.false
