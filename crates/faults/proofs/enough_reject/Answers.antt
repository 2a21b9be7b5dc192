-- `faults::enough_reject` meets its contract: it is the theorem.
use Rattle.faults.proofs.LinksOut.{enough_reject}
use Rattle.faults.proofs.enough_reject.Goals as goal

pub returns : goal.returns
returns c = enough_reject
