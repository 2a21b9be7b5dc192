-- `common::bits::first_after` meets its contract: the zeros below the lowest bit above the place, or below the lowest of all.
use native.Mathlib.Omega.{arith}
use Rattle.common.proofs.LowestBit.{found_above, found_round}
use Rattle.common.proofs.bits.first_after.Goals as goal

pub returns-then-above-ne0 : goal.returns-then-above-ne0
returns-then-above-ne0 c = found_above 32 c.args.bits c.args.place (omega arith) c.if-above-ne0.true

pub returns-then-bits-ne0 : goal.returns-then-bits-ne0
returns-then-bits-ne0 c = found_round 32 c.args.bits c.args.place (omega arith) c.if-bits-ne0.true c.if-above-ne0.false
