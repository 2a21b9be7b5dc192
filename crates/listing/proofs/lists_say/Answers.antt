-- `listing::lists_say` meets its contract: it is the theorem.
use Rattle.listing.proofs.Agreeing.{prints_history}
use Rattle.listing.proofs.lists_say.Goals as goal

pub returns : goal.returns
returns c = prints_history
