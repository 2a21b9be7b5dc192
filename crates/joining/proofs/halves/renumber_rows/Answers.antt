-- `joining::halves::renumber_rows` meets its contract: each circuit has room, and all of them are written.
use native.Mathlib.Omega.{arith}
use Rattle.joining.specs.JoinContracts.{WordsFit, WordsGained}
use Rattle.joining.proofs.halves.renumber_rows.Goals as goal

pub renumbered-requires : goal.renumbered-requires
unfolding WordsFit
renumbered-requires c = omega (arith, c.word.ensures, c.requires.1 c.loop-i.i (omega arith))

pub returns : goal.returns
unfolding WordsGained
returns c i h = c.loop-i.invariant i (omega arith)
