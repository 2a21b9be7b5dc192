-- `freedom::folding_can_hurt` meets its contract: it is the theorem.
use Rattle.freedom.proofs.FoldingHurts.{folding_hurts}
use Rattle.freedom.proofs.folding_can_hurt.Goals as goal

pub returns : goal.returns
returns c = folding_hurts
