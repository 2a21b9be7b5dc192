-- `converting::back_the_same` meets its contract: it is the theorem.
use Rattle.converting.proofs.Alike.{there_and_back}
use Rattle.converting.proofs.back_the_same.Goals as goal

pub returns : goal.returns
returns c = there_and_back
