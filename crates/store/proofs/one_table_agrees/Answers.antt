-- `store::one_table_agrees` meets its contract: the theorem about lists of calls on one table.
use Rattle.store.proofs.OneTable.{table_demand_3}
use Rattle.store.proofs.one_table_agrees.Goals as goal

pub returns : goal.returns
returns c = table_demand_3
