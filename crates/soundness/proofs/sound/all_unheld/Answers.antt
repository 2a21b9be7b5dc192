-- `soundness::sound::all_unheld` meets its contract: the groups so far are counted.
use mathlib.Core.Path.{◌≡◌, subst}
use Prim.Native.Nat.{ℕ, ◌+◌, ◌*◌}
use native.Mathlib.Omega.{arith}
use Rattle.table.specs.View.{view}
use Rattle.soundness.specs.Counting.{UnheldCounted}
use Rattle.soundness.proofs.Unheld.{unheld_start, unheld_more}
use Rattle.soundness.proofs.sound.all_unheld.Goals as goal

pub loop-i-init : goal.loop-i-init
loop-i-init g c = unheld_start

pub loop-i-preserved : goal.loop-i-preserved
loop-i-preserved g c =
    let on : 16 * c.loop-i.i + 16 ≡ 16 * (c.loop-i.i + 1) = omega arith in
    subst (λ (x : ℕ). UnheldCounted g.L.Layout.PORTS (view c.args.table.now.bytes.now) 0 x (c.loop-i.unheld + c.in_ok-unheld.field-0)) on (unheld_more c.loop-i.invariant c.in_ok-unheld.ensures)

pub returns : goal.returns
returns g c =
    let all : 16 * c.loop-i.i ≡ 256 = omega arith in
    subst (λ (x : ℕ). UnheldCounted g.L.Layout.PORTS (view c.args.table.now.bytes.now) 0 x c.loop-i.unheld) all c.loop-i.invariant
