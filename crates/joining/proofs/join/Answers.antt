-- `joining::join` meets its contract: the tests of both tables, the length of the third, the two dimensions, and then it is written.
use mathlib.Core.Path.{sym, ◌∙◌}
use mathlib.Core.Logic.{inl, inr}
use Rattle.std.proofs.lemmas.Result.{err_from_is_err_and}
use Rattle.common.proofs.Refusals as refusals
use Rattle.joining.proofs.Answering.{first_stops, second_stops, third_stops, halves_stop, halves_joined, joinable}
use Rattle.joining.proofs.join.Goals as goal
use Rattle.joining.proofs.join.Goals.{then-dimension-via-then-dimension, then-dimension-via-else-dimension+then-dimension-eq-LARGEST_DIMENSION}

pub returns-in_err-check : goal.returns-in_err-check
returns-in_err-check c =
    let p = err_from_is_err_and c.from_residual.result c.from_residual.ensures.1 in
    rw (p.1, p.2) (first_stops _ _ _ c.in_err-check.ensures.tests (refusals.refused _))

pub returns-in_err-check-2 : goal.returns-in_err-check-2
returns-in_err-check-2 c =
    let p = err_from_is_err_and c.from_residual-in_err-check-2.result c.from_residual-in_err-check-2.ensures.1 in
    rw (p.1, p.2) (second_stops _ _ _ c.in_ok-check.ensures.tests c.in_err-check-2.ensures.tests (refusals.refused _))

pub returns-then-joined-ne-BYTES : goal.returns-then-joined-ne-BYTES
returns-then-joined-ne-BYTES c = third_stops _ _ _ c.in_ok-check.ensures.tests c.in_ok-check-2.ensures.tests c.if-joined-ne-BYTES.true

pub returns-then-dimension : goal.returns-then-dimension
returns-then-dimension c =
    let first = c.dimension-dimension.ensures in
    halves_stop _ _ _ c.in_ok-check.ensures.tests c.in_ok-check-2.ensures.tests c.if-joined-ne-BYTES.false
    (elim c.then-dimension.branch [
      | then-dimension-via-then-dimension w ↦ inl (λ z. w.if-dimension.true (first ∙ z ∙ sym c.dimension.ensures))
      | then-dimension-via-else-dimension+then-dimension-eq-LARGEST_DIMENSION w ↦ inr (sym first ∙ w.if-dimension-eq-LARGEST_DIMENSION.true)
    ])

pub write-requires : goal.write-requires
write-requires c = (
  joinable _ _ _ c.in_ok-check.ensures.tests c.in_ok-check-2.ensures.tests c.dimension-dimension.ensures (c.if-dimension.false ∙ c.dimension.ensures) c.if-dimension-eq-LARGEST_DIMENSION.false,
  c.if-joined-ne-BYTES.false,
)

pub returns : goal.returns
returns c =
    let first = c.dimension-dimension.ensures in
    halves_joined _ _ _ c.in_ok-check.ensures.tests c.in_ok-check-2.ensures.tests c.if-joined-ne-BYTES.false
    (sym first ∙ c.if-dimension.false ∙ c.dimension.ensures) (λ z. c.if-dimension-eq-LARGEST_DIMENSION.false (first ∙ z)) c.write.ensures
