-- `router::calls::fold` meets its contract: the table is sound, and the bytes are those of the definition.
use Rattle.std.proofs.Common.{arith}
use Rattle.router.proofs.TableStep.{fold_enables, call_folds}
use Rattle.router.proofs.calls.fold.Goals as goal

pub set_fold-requires-clause-enables : goal.set_fold-requires-clause-enables
set_fold-requires-clause-enables c = fold_enables c.args.t.now c.args.mask c.in_ok-fold.ensures (λ k. omega (arith, c.slice_known-1.given k))

pub returns : goal.returns
returns c = call_folds c.args.t.now c.args.mask c.in_ok-fold.ensures (λ k. omega (arith, c.slice_known-1.given k)) c.set_fold.ensures
