-- `ownership::freedom_never_hurts` meets its contract: it is the theorem.
use Rattle.ownership.proofs.MoreFreedom.{freedom_acknowledges}
use Rattle.ownership.proofs.freedom_never_hurts.Goals as goal

pub returns : goal.returns
returns c = λ q width b small s c t y v e calls all. freedom_acknowledges q width b small s c t y v e all
