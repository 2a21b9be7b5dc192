-- `receiver::receives_agree` meets its contract: it is the theorem.
use Rattle.receiver.proofs.Agreement.{every_sequence_agrees}
use Rattle.receiver.proofs.receives_agree.Goals as goal

pub returns : goal.returns
returns c = every_sequence_agrees
