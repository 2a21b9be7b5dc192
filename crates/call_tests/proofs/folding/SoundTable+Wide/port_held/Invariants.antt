-- `SoundTable<Wide>::port_held` meets its contract: no link out of the port is held at a node before n.
use mathlib.Core.Path.{◌≡◌}
use mathlib.Core.Bool.{false}
use Prim.Native.Nat.{ℕ, ◌<◌}
use Rattle.table.specs.View.{view, held_in}
use Rattle.call_tests.proofs.folding.SoundTable+Wide.port_held.Given as goal

abbrev pub invariant-loop-n : goal.invariant-loop-n
invariant-loop-n l = (k : ℕ) → k < l.n → held_in (view l.self.bytes.now) k l.p.0 ≡ false
