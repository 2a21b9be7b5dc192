-- `joining::halves::renumber_rows` meets its contract: the circuits before place i are written.
use Rattle.std.proofs.Common.{◌≡◌, ◌*◌, ◌<◌, ℕ}
use Rattle.layout.specs.Layout.{word_at}
use Rattle.joining.specs.Joined.{renumbered}
use Rattle.joining.proofs.halves.renumber_rows.Given as goal

abbrev pub invariant-loop-i : goal.invariant-loop-i
invariant-loop-i l = (j : ℕ) → j < l.i → word_at l.to (2 * j) ≡ renumbered l.gain (word_at l.rows (2 * j))
