-- `joining::joins_answer` meets its contract: it is the theorem.
use Rattle.joining.proofs.JoinNumbers.{join_numbers}
use Rattle.joining.proofs.joins_answer.Goals as goal

pub returns : goal.returns
returns c = join_numbers
