-- `converting::test` meets its contract: the tests of the table read, then the length of the one written.
use mathlib.Core.Path.{◌∙◌, sym}
use Rattle.std.proofs.lemmas.Result.{err_from_is_err_and}
use Rattle.common.proofs.Refusals as refusals
use Rattle.converting.proofs.Answering.{read_stops, written_stops, neither_stops}
use Rattle.converting.proofs.test.Goals as goal

pub returns-in_err-check : goal.returns-in_err-check
returns-in_err-check g c =
    let p = err_from_is_err_and c.from_residual.result c.from_residual.ensures.1 in
    rw (p.1, p.2) (read_stops _ _ _ _ c.in_err-check.ensures.tests (refusals.refused _))

pub returns-then-to-LENGTH : goal.returns-then-to-LENGTH
returns-then-to-LENGTH g c = neither_stops _ _ _ _ c.in_ok-check.ensures.tests (c.if-to-LENGTH.true ∙ c.LENGTH.ensures ∙ g.met.L.Layout.laws.long_is)

pub returns-else-to-LENGTH : goal.returns-else-to-LENGTH
returns-else-to-LENGTH g c = written_stops _ _ _ _ c.in_ok-check.ensures.tests (λ z. c.if-to-LENGTH.false (z ∙ sym (c.LENGTH.ensures ∙ g.met.L.Layout.laws.long_is)))
