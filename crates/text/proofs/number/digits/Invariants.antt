-- `text::number::digits` meets its contract: what was read so far and the digits that are left say what the field says.
use mathlib.Core.Path.{◌≡◌}
use Prim.Native.Nat.{◌≤◌}
use lib.ListN.{drop}
use Rattle.text.specs.Written.{said}
use Rattle.text.proofs.number.digits.Given as goal

abbrev pub invariant-loop-x : goal.invariant-loop-x
invariant-loop-x l = (l.n ≤ 65535) × (said l.n (drop l.x-index l.field) ≡ said 0 l.field)
