-- `joining::joins_say` meets its contract: it is the theorem.
use Rattle.joining.proofs.JoinNumbers.{join_says}
use Rattle.joining.proofs.joins_say.Goals as goal

pub returns : goal.returns
returns c = join_says
