-- `converting::converts_say` meets its contract: it is the theorem.
use Rattle.converting.proofs.Alike.{convert_says}
use Rattle.converting.proofs.converts_say.Goals as goal

pub returns : goal.returns
returns c = convert_says
