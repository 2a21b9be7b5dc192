-- `converting::narrow` meets its contract: both tables are tested, then the fold mask, and then what the wide one shows is written.
use mathlib.Core.Path.{refl, sym, ◌∙◌}
use native.Mathlib.Omega.{arith}
use Rattle.std.proofs.lemmas.Result.{err_from_is_err_and}
use Rattle.common.proofs.Refusals as refusals
use Rattle.table.specs.View.{view}
use Rattle.ownership.proofs.Stops.{pass_tests}
use Rattle.layout.proofs.Folds.{fold_wide}
use Rattle.converting.proofs.Answering.{both_stop, fold_stops, none_stops, fits_both}
use Rattle.converting.proofs.narrow.Goals as goal

pub returns-in_err-test : goal.returns-in_err-test
returns-in_err-test c =
    let p = err_from_is_err_and c.from_residual.result c.from_residual.ensures.1 in
    rw (p.1, p.2) (both_stop 18 8 _ _ c.in_err-test.ensures (refusals.refused _))

pub bounds-wide-1 : goal.bounds-wide-1
bounds-wide-1 c = let long = (pass_tests 18 c.args.wide.now (c.in_ok-test.ensures.read refl)).0 in omega (arith, long)

pub returns-then-fold-ne0 : goal.returns-then-fold-ne0
unfolding view
returns-then-fold-ne0 c =
    let long = (pass_tests 18 c.args.wide.now (c.in_ok-test.ensures.read refl)).0 in
    fold_stops 18 8 _ _ c.in_ok-test.ensures refl (λ z. c.if-fold-ne0.true (sym (fold_wide c.args.wide.now long) ∙ z))

pub write-requires : goal.write-requires
write-requires c =
    let long = (pass_tests 18 c.args.wide.now (c.in_ok-test.ensures.read refl)).0 in
    (fits_both 18 c.args.wide.now (λ i. omega (arith, c.type_inv.wide i)) (c.in_ok-test.ensures.read refl) (fold_wide c.args.wide.now long ∙ c.if-fold-ne0.false), long, c.in_ok-test.ensures.written refl)

pub returns : goal.returns
unfolding view
returns c =
    let long = (pass_tests 18 c.args.wide.now (c.in_ok-test.ensures.read refl)).0 in
    none_stops 18 8 _ _ c.in_ok-test.ensures (λ e. fold_wide c.args.wide.now long ∙ c.if-fold-ne0.false) c.write.ensures
