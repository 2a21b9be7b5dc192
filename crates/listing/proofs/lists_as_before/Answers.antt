-- `listing::lists_as_before` meets its contract: it is the theorem.
use Rattle.listing.proofs.Before.{printed_as_before}
use Rattle.listing.proofs.lists_as_before.Goals as goal

pub returns : goal.returns
returns c = printed_as_before
