-- `ownership::waiting_helps` meets its contract: it is the theorem.
use Rattle.ownership.proofs.Waiting.{all_closed_acknowledges}
use Rattle.ownership.proofs.waiting_helps.Goals as goal

pub returns : goal.returns
returns c = λ q width b s c t y v small calls all. all_closed_acknowledges q width b s c t y v small all
