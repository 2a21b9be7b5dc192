-- `converting::widen` meets its contract: both tables are tested, and then what the narrow one shows is written.
use mathlib.Core.Path.{refl}
use native.Mathlib.Omega.{arith}
use Rattle.std.proofs.lemmas.Result.{err_from_is_err_and}
use Rattle.common.proofs.Refusals as refusals
use Rattle.ownership.proofs.Stops.{pass_tests}
use Rattle.layout.proofs.Folds.{fold_none}
use Rattle.converting.proofs.Answering.{both_stop, none_stops, fits_both}
use Rattle.converting.proofs.widen.Goals as goal

pub returns-in_err-test : goal.returns-in_err-test
returns-in_err-test c =
    let p = err_from_is_err_and c.from_residual.result c.from_residual.ensures.1 in
    rw (p.1, p.2) (both_stop 8 18 _ _ c.in_err-test.ensures (refusals.refused _))

pub write-requires : goal.write-requires
write-requires c =
    let long = (pass_tests 8 c.args.narrow.now (c.in_ok-test.ensures.read refl)).0 in
    (fits_both 8 c.args.narrow.now (λ i. omega (arith, c.type_inv.narrow i)) (c.in_ok-test.ensures.read refl) (fold_none c.args.narrow.now long), long, c.in_ok-test.ensures.written refl)

pub returns : goal.returns
returns c = none_stops 8 18 _ _ c.in_ok-test.ensures (λ e. absurd (omega (arith, e))) c.write.ensures
