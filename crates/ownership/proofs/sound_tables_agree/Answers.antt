-- `ownership::sound_tables_agree` meets its contract: it is the theorem.
use Rattle.ownership.proofs.FromTable.{sound_agrees}
use Rattle.ownership.proofs.sound_tables_agree.Goals as goal

pub returns : goal.returns
returns c = sound_agrees
