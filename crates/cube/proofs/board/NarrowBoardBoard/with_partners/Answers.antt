-- A board with no folds adds no partners.
use Rattle.cube.proofs.PartnerPorts.{no_partners}
use Rattle.cube.proofs.board.NarrowBoardBoard.with_partners.Goals as goal

pub returns : goal.returns
returns c = (no_partners c.args.vector c.requires, c.requires)
