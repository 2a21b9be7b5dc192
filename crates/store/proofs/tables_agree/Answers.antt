-- `store::tables_agree` meets its contract: the theorem about lists of events.
use Rattle.store.proofs.Stores.{store_demand_3}
use Rattle.store.proofs.tables_agree.Goals as goal

pub returns : goal.returns
returns c = store_demand_3
