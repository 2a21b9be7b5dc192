-- The closure of `reach::leads_on`: a port leads from one of 256 nodes to another, which is marked or not.
use mathlib.Core.Path.{refl}
use Rattle.reach.proofs.fn.leads_on.any.Goals as goal

pub bounds-marks-from : goal.bounds-marks-from
bounds-marks-from g c = rw (c.from.ensures, c.neighbour.ensures) c.requires.2

pub returns : goal.returns
returns g c = rw (c.from.ensures, c.neighbour.ensures) refl
