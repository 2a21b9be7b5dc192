-- `soundness::sound::unheld_group` meets its contract: nothing is held there, or the nodes are looked at.
use mathlib.Core.Path.{◌≡◌, ap₂, subst}
use mathlib.Core.Logic.{⊎_elim, ◌≢◌}
use mathlib.Core.Bool.{true}
use Prim.Native.Nat.{ℕ, ◌*◌}
use native.Mathlib.Omega.{arith}
use Rattle.common.proofs.Tests.{below_or}
use Rattle.table.specs.View.{view}
use Rattle.soundness.proofs.Unheld.{unheld_some, unheld_clear}
use Rattle.soundness.proofs.sound.unheld_group.Goals as goal

pub returns-then-none_held : goal.returns-then-none_held
returns-then-none_held g c =
    let table = c.args.table.now in
    let laws = g.met.L.Layout.laws in
    unheld_clear g.L.Layout.PORTS laws.ports_are table.bytes.now c.args.from.0 _ (ap₂ ◌*◌ c.from.ensures c.PORTS.ensures) (c.none_held.ensures c.if-none_held.true)

pub returns-then-not-held_enabled : goal.returns-then-not-held_enabled
returns-then-not-held_enabled g c s = c.held_enabled.ensures.fails c.if-not-held_enabled.true (λ p i z. unfold view in s.held_enabled c.loop-n.n p z)

pub loop-n-preserved : goal.loop-n-preserved
loop-n-preserved g c m p l h k z =
    let v = view c.args.table.now.bytes.now in
    ⊎_elim (λ y. c.loop-n.invariant m p l y k z)
    (λ y. let q : c.loop-n.n ≡ m = omega arith in
    subst (λ (x : ℕ). v.owner x p ≢ 0 → v.enabled x p ≡ true) q (unfold view in c.held_enabled.ensures.holds c.if-not-held_enabled.false p k) z)
    (below_or c.loop-n.n m)

pub returns : goal.returns
returns g c =
    let table = c.args.table.now in
    let laws = g.met.L.Layout.laws in
    unheld_some g.L.Layout.PORTS laws.ports_are table.bytes.now c.args.from.0 c.count_unheld.ensures.few (λ m p l h. c.loop-n.invariant m p l (omega arith)) c.count_unheld.ensures.counted
