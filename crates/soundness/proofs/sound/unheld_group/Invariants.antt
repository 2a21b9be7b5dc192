-- `soundness::sound::unheld_group` meets its contract: the held links of the nodes so far are enabled.
use mathlib.Core.Path.{◌≡◌}
use mathlib.Core.Logic.{◌≢◌}
use mathlib.Core.Bool.{true}
use Prim.Native.Nat.{ℕ, ◌≤◌, ◌<◌}
use Rattle.table.specs.View.{view}
use Rattle.soundness.proofs.sound.unheld_group.Given as goal

abbrev pub invariant-loop-n : goal.invariant-loop-n
invariant-loop-n g l = (m p : ℕ) → l.from.0 ≤ m → m < l.n → p < g.L.Layout.PORTS → (view l.table.bytes.now).owner m p ≢ 0 → (view l.table.bytes.now).enabled m p ≡ true
