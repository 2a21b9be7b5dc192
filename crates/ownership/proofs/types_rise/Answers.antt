-- `ownership::types_rise` meets its contract: it is the theorem.
use Rattle.ownership.proofs.TypesOnTable.{types_rise}
use Rattle.ownership.proofs.types_rise.Goals as goal

pub returns : goal.returns
returns c = types_rise
