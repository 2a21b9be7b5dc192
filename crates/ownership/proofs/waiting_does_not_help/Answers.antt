-- `ownership::waiting_does_not_help` meets its contract: it is the theorem.
use Rattle.ownership.proofs.Waiting.{blocked_until_repair}
use Rattle.ownership.proofs.waiting_does_not_help.Goals as goal

pub returns : goal.returns
returns c = λ q width b s c t y v small calls all. blocked_until_repair q width b s c t y v small all
