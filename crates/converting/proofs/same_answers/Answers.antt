-- `converting::same_answers` meets its contract: it is the theorem.
use Rattle.converting.proofs.Alike.{converted_alike}
use Rattle.converting.proofs.same_answers.Goals as goal

pub returns : goal.returns
returns c = converted_alike
