-- `cube::folds::with_partners` meets its contract: `&` leaves the folded ports, and `|` joins their partners.
use Rattle.cube.proofs.PartnerPorts.{partnered}
use Rattle.cube.proofs.folds.with_partners.Goals as goal

pub returns : goal.returns
returns c = partnered c.args.fold c.args.vector c.partners.result c.requires c.partners.ensures
