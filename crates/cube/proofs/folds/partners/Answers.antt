-- `cube::folds::partners` meets its contract: the rule is computed of every byte.
use mathlib.Core.Path.{refl}
use Rattle.cube.specs.Bits.{has, bit_at}
use Rattle.cube.proofs.PartnerPorts.{mirror_is, mirrored}
use Rattle.cube.specs.declared.folds.TheConstants.{REVERSED}
use Rattle.cube.proofs.folds.partners.Goals as goal

pub returns : goal.returns
unfolding mirrored has bit_at
returns c = mirror_is REVERSED refl c.args.vector c.from.result c.requires c.from.ensures
