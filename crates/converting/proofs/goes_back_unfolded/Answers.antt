-- `converting::goes_back_unfolded` meets its contract: it is the theorem.
use Rattle.converting.proofs.Unfolded.{folded_between}
use Rattle.converting.proofs.goes_back_unfolded.Goals as goal

pub returns : goal.returns
returns c = folded_between
