-- `joining::joins_agree` meets its contract: it is the theorem.
use Rattle.joining.proofs.JoinNumbers.{join_represents}
use Rattle.joining.proofs.joins_agree.Goals as goal

pub returns : goal.returns
returns c = join_represents
