-- `booking::judge` meets its contract: the tests of the table, and then those of the book.
use native.Mathlib.Omega.{arith}
use Rattle.std.proofs.lemmas.Result.{err_from_is_err_and}
use Rattle.common.proofs.Refusals as refusals
use Rattle.booking.proofs.JudgeStep.{judging_table_stops, book_judged}
use Rattle.booking.proofs.judge.Goals as goal

pub returns-in_err-check : goal.returns-in_err-check
returns-in_err-check g c =
    let p = err_from_is_err_and c.from_residual.result c.from_residual.ensures.1 in
    rw (p.1, p.2) (judging_table_stops _ _ _ _ _ _ c.in_err-check.ensures.tests (refusals.refused _))

pub returns : goal.returns
returns g c = book_judged _ _ _ _ _ _ c.in_ok-check.ensures.tests c.judge.ensures g.met.L.Layout.laws.ports_are (λ i. omega (arith, c.type_inv.t i))
