-- `layout::copy` meets its contract: all bytes are copied.
use native.Mathlib.Omega.{arith}
use Rattle.std.proofs.lemmas.Grind.{same_number_lists}
use Rattle.layout.proofs.copy.Goals as goal

pub returns : goal.returns
returns c = same_number_lists c.loop-i.to c.args.from.now (omega arith) (λ k h. c.loop-i.invariant.1 k (omega arith))
