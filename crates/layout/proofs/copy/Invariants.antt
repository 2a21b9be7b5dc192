-- `layout::copy` meets its contract: the bytes before place i are copied.
use mathlib.Core.Path.{◌≡◌}
use Prim.Native.Nat.{ℕ, ◌<◌}
use lib.ListN.{length, get_or}
use Rattle.layout.proofs.copy.Given as goal

abbrev pub invariant-loop-i : goal.invariant-loop-i
invariant-loop-i l = (length l.to ≡ length l.initial.to) × ((j : ℕ) → j < l.i → get_or l.to j 0 ≡ get_or l.from j 0)
