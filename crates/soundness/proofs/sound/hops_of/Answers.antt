-- `soundness::sound::hops_of` meets its contract: nothing is held there, or what is held must be armed, and its circuits are followed.
use mathlib.Core.Path.{◌≡◌, refl, sym, ap, ap₂, ◌∙◌}
use Prim.Native.Nat.{◌^◌}
use native.Mathlib.Omega.{arith}
use native.Mathlib.Nat.{add-zero}
use Rattle.std.proofs.Common.{Some, None}
use Rattle.table.specs.View.{view}
use Rattle.table.proofs.CubeRows.{table_row}
use Rattle.circuit_hops.proofs.Ways.{shown}
use Rattle.soundness.proofs.Counting.{counts_skip, counts_join, counts_fail, counts_as_lem}
use Rattle.soundness.proofs.CountedChannel.{counts_entry}
use Rattle.soundness.proofs.Deciding.{unarmed_fails, armed_held, absent_unheld}
use Rattle.soundness.proofs.sound.hops_of.Goals as goal
use Rattle.soundness.proofs.sound.hops_of.Goals.{then-c-ne0+in_ok-hops, else-c-ne0}

pub returns-then-none_held : goal.returns-then-none_held
unfolding view
returns-then-none_held g c = counts_skip (omega arith) (λ n k l g h. c.none_held.ensures c.if-none_held.true n k (omega arith) (omega arith) l)

pub returns-then-not-held_enabled : goal.returns-then-not-held_enabled
returns-then-not-held_enabled g c h x s = unarmed_fails c.args.table.now.bytes.now c.args.n.0 c.held_enabled.ensures c.if-not-held_enabled.true s

pub returns-then-n-table : goal.returns-then-n-table
returns-then-n-table g c =
    let b = c.args.table.now.bytes.now in
    let n = c.args.n.0 in
    let none = absent_unheld b n c.held_enabled.ensures c.if-not-held_enabled.false c.requires.unarmed (omega (arith, c.if-n-table.true, c.args.table.now.count)) in
    counts_skip (omega arith) (λ m k l g h. let e : n ≡ m = omega arith in ap (λ y. (view b).receiver y k) (sym e) ∙ none k l)

pub returns-in_err-hops : goal.returns-in_err-hops
returns-in_err-hops g c =
    let b = c.args.table.now.bytes.now in
    let k = c.loop-k.k in
    let held : c.owner-c.result.0 ≡ (view b).receiver c.args.n.0 k = unfold view in c.owner-c.ensures in
    rw c.from_residual.ensures
    (counts_fail c.loop-k.invariant (counts_entry g.L.Layout.PORTS g.met.L.Layout.laws.ports_are (view b) (table_row g.met.L.Layout.laws b c.args.table.now.long c.args.table.now.fits) (g.M.Marks.of_node c.loop-k.seen) (g.M.Marks.of_node c.hops_to.new.seen) (omega (arith, shown b, c.args.table.now.fits)) held c.if-c-ne0.true c.loop-k-test.true
    (omega (arith, c.if-n-table.false, c.args.table.now.count, ap (2 ^◌) (shown b))) (armed_held b c.args.n.0 c.held_enabled.ensures c.if-not-held_enabled.false k c.loop-k-test.true (λ z. c.if-c-ne0.true (held ∙ z)))
    None c.in_err-hops.ensures))

pub loop-k-init : goal.loop-k-init
loop-k-init g c = counts_skip (omega arith) (λ n k l g h. absurd (omega arith))

pub loop-k-preserved : goal.loop-k-preserved
loop-k-preserved g c =
    let b = c.args.table.now.bytes.now in
    let n = c.args.n.0 in
    let k = c.loop-k.k in
    let held : c.owner-c.result.0 ≡ (view b).receiver n k = unfold view in c.owner-c.ensures in
    elim c.if-c-ne0.branch [
      | then-c-ne0+in_ok-hops w ↦
          counts_as_lem (counts_join c.loop-k.invariant (counts_entry g.L.Layout.PORTS g.met.L.Layout.laws.ports_are (view b) (table_row g.met.L.Layout.laws b c.args.table.now.long c.args.table.now.fits) (g.M.Marks.of_node c.loop-k.seen) (g.M.Marks.of_node w.hops_to.new.seen) (omega (arith, shown b, c.args.table.now.fits)) held w.if-c-ne0.true c.loop-k-test.true
          (omega (arith, c.if-n-table.false, c.args.table.now.count, ap (2 ^◌) (shown b))) (armed_held b n c.held_enabled.ensures c.if-not-held_enabled.false k c.loop-k-test.true (λ z. w.if-c-ne0.true (held ∙ z)))
          (Some w.in_ok-hops.field-0) w.in_ok-hops.ensures)) refl (omega arith) (ap g.M.Marks.of_node w.seen-is) w.hops-is
      | else-c-ne0 w ↦
          counts_as_lem (counts_join c.loop-k.invariant (counts_skip (omega arith) (λ a j z g h. let p : n ≡ a = omega arith in let q : k ≡ j = omega arith in ap₂ (view b).receiver (sym p) (sym q) ∙ sym held ∙ w.if-c-ne0.false)))
          refl refl (ap g.M.Marks.of_node w.seen-is) (w.hops-is ∙ sym (add-zero _))
    ]

pub returns : goal.returns
returns g c = counts_as_lem c.loop-k.invariant refl (omega arith) refl refl
