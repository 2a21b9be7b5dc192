-- `table_book::count_held` meets its contract: the places that are not held, taken from all.
use native.Mathlib.Omega.{arith}
use Rattle.table_book.proofs.UnheldRest.{held_rest}
use Rattle.table_book.proofs.count_held.Goals as goal

pub returns : goal.returns
returns g c = omega (arith, c.WIDTH.ensures, held_rest g.H.Resource.WIDTH (g.H.Resource.owner c.args.t.now) g.met.H.Resource.laws.width_is c.count_unheld-unheld.result c.count_unheld-unheld.ensures.counted)
