-- `cube::folds::axis` meets its contract: below 9 the port, else its partner.
use native.Mathlib.Omega.{arith}
use Rattle.cube.proofs.Axes.{axis_low}
use Rattle.cube.proofs.PartnerPorts.{axis_high}
use Rattle.cube.proofs.folds.axis.Goals as goal

pub returns-then-p-lt9 : goal.returns-then-p-lt9
returns-then-p-lt9 c = let l = c.if-p-lt9.true in omega (arith, l, axis_low c.args.port.0 (omega (arith, l)))

pub returns-else-p-lt9 : goal.returns-else-p-lt9
returns-else-p-lt9 c = let l = c.if-p-lt9.false in omega (arith, l, c.requires, axis_high c.args.port.0 (omega (arith, l)))
