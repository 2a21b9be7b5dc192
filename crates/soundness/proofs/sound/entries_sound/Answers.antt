-- `soundness::sound::entries_sound` meets its contract: the masks fit, and the hops of the circuits and the unheld links are all links.
use mathlib.Core.Path.{◌≡◌, ap, sym, subst, ◌∙◌}
use Prim.Native.Nat.{ℕ, ◌+◌, ◌*◌, ◌^◌, ◌<◌}
use lib.Dec.{eqb}
use native.Mathlib.Omega.{arith}
use native.Mathlib.Nat.{div-eq_of_lt}
use borrow.Author.Tests.{eq-eqb}
use Rattle.std.proofs.Common.{Some}
use Rattle.cube.proofs.Ports.{count_of}
use Rattle.layout.specs.Layout.{dimension_at, fold_at}
use Rattle.layout.specs.Resources.{ports_of_long}
use Rattle.table.specs.TableContracts.{ArmsFit}
use Rattle.table.specs.View.{view}
use Rattle.soundness.proofs.Counting.{counting_none}
use Rattle.soundness.proofs.Deciding.{sound_arms, sound_enables, sound_fold, mask_fits, refuse, sum_answers}
use Rattle.soundness.proofs.Passing.{unarmed}
use Rattle.soundness.proofs.sound.entries_sound.Goals as goal

pub returns-then-not-arms_fit : goal.returns-then-not-arms_fit
returns-then-not-arms_fit g c =
    let b = c.args.t.now in
    let laws = g.met.L.Layout.laws in
    refuse b (omega (arith, c.requires.stored, c.requires.most)) g.L.Layout.PORTS laws.ports_are (ports_of_long g.L.Layout.PORTS b laws.ports_are (c.requires.bytes ∙ laws.long_is))
    (λ z. c.arms_fit.ensures.fails c.if-not-arms_fit.true (subst (ArmsFit b) (sym c.requires.stored) (sound_arms b (λ i. omega (arith, c.type_inv.t i)) z)))

pub returns-then-fold_mask-dimension-ne0 : goal.returns-then-fold_mask-dimension-ne0
returns-then-fold_mask-dimension-ne0 g c =
    let b = c.args.t.now in
    let laws = g.met.L.Layout.laws in
    let mask : c.fold_mask.result ≡ fold_at b = c.fold_mask.ensures ∙ c.board.ensures.2 in
    refuse b (omega (arith, c.requires.stored, c.requires.most)) g.L.Layout.PORTS laws.ports_are (ports_of_long g.L.Layout.PORTS b laws.ports_are (c.requires.bytes ∙ laws.long_is))
    (λ z. c.if-fold_mask-dimension-ne0.true (div-eq_of_lt (rw (mask, c.requires.stored) (sound_fold b (λ i. omega (arith, c.type_inv.t i)) z))))

pub returns-then-not-enables_fit : goal.returns-then-not-enables_fit
returns-then-not-enables_fit g c =
    let b = c.args.t.now in
    let laws = g.met.L.Layout.laws in
    refuse b (omega (arith, c.requires.stored, c.requires.most)) g.L.Layout.PORTS laws.ports_are (ports_of_long g.L.Layout.PORTS b laws.ports_are (c.requires.bytes ∙ laws.long_is))
    (λ z. c.enables_fit.ensures.fails c.if-not-enables_fit.true (sound_enables b (λ i. omega (arith, c.type_inv.t i)) z))

pub returns-in_default : goal.returns-in_default
returns-in_default g c =
    let laws = g.met.L.Layout.laws in
    refuse c.args.t.now (omega (arith, c.requires.stored, c.requires.most)) g.L.Layout.PORTS laws.ports_are (ports_of_long g.L.Layout.PORTS c.args.t.now laws.ports_are (c.requires.bytes ∙ laws.long_is)) c.in_default.ensures

pub invariant_of-table : goal.invariant_of-table
invariant_of-table g c =
    record {
      long = c.requires.bytes;
      fits = omega (arith, c.requires.stored, c.requires.most);
      count = count_of c.requires.stored c.node_count.ensures.value;
    }

pub received_hops-requires : goal.received_hops-requires
received_hops-requires g c = let b = c.args.t.now in λ n k l. unarmed b (dimension_at b) n k (subst (ArmsFit b) c.requires.stored (c.arms_fit.ensures.holds c.if-not-arms_fit.false)) l

pub returns-in_default-received_hops : goal.returns-in_default-received_hops
returns-in_default-received_hops g c =
    let b = c.args.t.now in
    let laws = g.met.L.Layout.laws in
    refuse b (omega (arith, c.requires.stored, c.requires.most)) g.L.Layout.PORTS laws.ports_are (ports_of_long g.L.Layout.PORTS b laws.ports_are (c.requires.bytes ∙ laws.long_is))
    (c.in_default-received_hops.ensures.1 0 (counting_none g.L.Layout.PORTS (view b)))

pub returns : goal.returns
returns g c =
    let b = c.args.t.now in
    let laws = g.met.L.Layout.laws in
    let mask : c.fold_mask.result ≡ fold_at b = c.fold_mask.ensures ∙ c.board.ensures.2 in
    let low : fold_at b < 2 ^ dimension_at b = (mask_fits (fold_at b) (dimension_at b)).holds (eq-eqb _ 0 (rw (mask, c.requires.stored) at c.if-fold_mask-dimension-ne0.false)) in
    ap (λ (q : ℕ). eqb (c.in-Some-received_hops.hops + c.in-Some.unheld) (256 * q)) c.PORTS.ensures
    ∙ sum_answers b (omega (arith, c.requires.stored, c.requires.most)) g.L.Layout.PORTS laws.ports_are (ports_of_long g.L.Layout.PORTS b laws.ports_are (c.requires.bytes ∙ laws.long_is)) low (c.enables_fit.ensures.holds c.if-not-enables_fit.false)
    (subst (ArmsFit b) c.requires.stored (c.arms_fit.ensures.holds c.if-not-arms_fit.false)) (Some c.in-Some-received_hops.hops) (Some c.in-Some.unheld) c.in-Some-received_hops.ensures.0 c.in-Some.ensures c.in-Some-received_hops.ensures.1
