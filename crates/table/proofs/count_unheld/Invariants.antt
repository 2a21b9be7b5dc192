-- `table::count_unheld` meets its contract: those before place i are counted.
use mathlib.Core.Path.{◌≡◌}
use Prim.Native.Nat.{◌+◌, ◌*◌, ◌≤◌}
use lib.Dec.{eqb}
use Rattle.table.specs.TableContracts.{place_count}
use Rattle.table.proofs.count_unheld.Given as goal

abbrev pub invariant-loop-i : goal.invariant-loop-i
invariant-loop-i g l =
    (l.unheld ≤ l.i)
    × (place_count g.H.Resource.WIDTH (λ n k. eqb (g.H.Resource.owner l.t n k) 0) (g.H.Resource.WIDTH * l.fn.n.0) + l.unheld ≡ place_count g.H.Resource.WIDTH (λ n k. eqb (g.H.Resource.owner l.t n k) 0) (g.H.Resource.WIDTH * l.fn.n.0 + l.i))
