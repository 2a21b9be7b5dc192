-- `ownership::calls_agree` meets its contract: it is the theorem.
use Rattle.ownership.proofs.Agreement.{demand_3}
use Rattle.ownership.proofs.calls_agree.Goals as goal

pub returns : goal.returns
returns c = demand_3
