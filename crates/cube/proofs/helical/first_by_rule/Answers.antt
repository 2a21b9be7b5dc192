-- `cube::helical::first_by_rule` meets its contract: the first port after the arrival port, where the vector has one.
use native.Mathlib.Omega.{arith}
use Rattle.cube.proofs.FirstPort.{by_rule}
use Rattle.cube.proofs.helical.first_by_rule.Goals as goal

pub returns : goal.returns
returns c = by_rule c.args.vector c.args.arrival.0 c.unwrap.result (λ z. omega arith) (rw c.unwrap.ensures at c.first_after.ensures)
