-- `soundness::sound::all_hops` meets its contract: the groups so far are counted.
use mathlib.Core.Path.{refl}
use native.Mathlib.Omega.{arith}
use Rattle.soundness.proofs.Counting.{counts_skip, counts_join, counts_fail, counts_as_lem}
use Rattle.soundness.proofs.sound.all_hops.Goals as goal

pub loop-i-init : goal.loop-i-init
loop-i-init g c = counts_skip (omega arith) (λ n k l g h. absurd (omega arith))

pub returns-in_err-hops : goal.returns-in_err-hops
returns-in_err-hops g c = rw c.from_residual.ensures (counts_fail (counts_as_lem c.loop-i.invariant refl (omega arith) refl refl) c.in_err-hops.ensures)

pub loop-i-preserved : goal.loop-i-preserved
loop-i-preserved g c = counts_join c.loop-i.invariant (counts_as_lem c.in_ok-hops.ensures (omega arith) (omega arith) refl refl)

pub returns : goal.returns
returns g c = counts_as_lem c.loop-i.invariant refl (omega arith) refl refl
