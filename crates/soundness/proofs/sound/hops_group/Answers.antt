-- `soundness::sound::hops_group` meets its contract: nothing is held there, or the nodes are looked at.
use mathlib.Core.Path.{refl}
use native.Mathlib.Omega.{arith}
use Rattle.table.specs.View.{view}
use Rattle.soundness.proofs.Counting.{counts_skip, counts_join, counts_fail, counts_as_lem}
use Rattle.soundness.proofs.sound.hops_group.Goals as goal

pub returns-then-none_held : goal.returns-then-none_held
unfolding view
returns-then-none_held g c = counts_skip (omega arith) (λ n k l g h. c.none_held.ensures c.if-none_held.true n k (omega arith) (omega arith) l)

pub loop-n-init : goal.loop-n-init
loop-n-init g c = counts_skip (omega arith) (λ n k l g h. absurd (omega arith))

pub returns-in_err-hops : goal.returns-in_err-hops
returns-in_err-hops g c = rw c.from_residual.ensures (counts_fail c.loop-n.invariant c.in_err-hops.ensures)

pub overflow_add-hops : goal.overflow_add-hops
overflow_add-hops g c = let a = c.loop-n.invariant.most in let b = c.in_ok-hops.ensures in omega (arith, b.most)

pub loop-n-preserved : goal.loop-n-preserved
loop-n-preserved g c = counts_as_lem (counts_join c.loop-n.invariant c.in_ok-hops.ensures) refl (omega arith) refl refl

pub returns : goal.returns
returns g c = counts_as_lem c.loop-n.invariant refl (omega arith) refl refl
