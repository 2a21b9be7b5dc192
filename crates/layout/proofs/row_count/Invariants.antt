-- `layout::row_count` meets its contract: the entries before k are counted.
use mathlib.Core.Path.{◌≡◌}
use Prim.Native.Nat.{◌*◌, ◌≤◌}
use lib.Dec.{eqb}
use lib.ListN.{length}
use Rattle.common.specs.Lists.{keep, from}
use Rattle.layout.specs.Layout.{word_at}
use Rattle.layout.proofs.row_count.Given as goal

abbrev pub invariant-loop-k : goal.invariant-loop-k
invariant-loop-k g l = (l.count ≤ l.k) × (l.count ≡ length (keep (λ j. eqb (word_at l.row (2 * j)) l.c.0) (from 0 l.k)))
