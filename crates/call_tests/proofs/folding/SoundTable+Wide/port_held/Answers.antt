-- `SoundTable<Wide>::port_held` meets its contract: a link out of the port is held where its entry is not 0.
use mathlib.Core.Path.{sym, ap, ◌∙◌}
use mathlib.Core.Bool.{not}
use Prim.Native.Nat.{◌^◌}
use native.Mathlib.Omega.{arith}
use borrow.Author.Tests.{eq-eqb, ne_eqb}
use Rattle.table.specs.View.{view, held_in}
use Rattle.call_tests.proofs.PartnersHeld.{found, none_found, one_more}
use Rattle.call_tests.proofs.folding.SoundTable+Wide.port_held.Goals as goal

pub returns-then-owner-ne0 : goal.returns-then-owner-ne0
unfolding held_in view
returns-then-owner-ne0 c =
    let nodes = c.node_count-n-end.ensures.value ∙ ap (2 ^◌) c.dimension.ensures in
    found (λ n. held_in (view c.args.self.now.bytes.now) n c.args.p.0) _ c.loop-n.n (omega (arith, nodes, c.loop-n-test.true)) (ap not (ne_eqb _ 0 (λ e. c.if-owner-ne0.true (c.owner.ensures ∙ e))))

pub loop-n-preserved : goal.loop-n-preserved
unfolding held_in view
loop-n-preserved c =
    one_more (λ n. held_in (view c.args.self.now.bytes.now) n c.args.p.0) c.loop-n.n c.loop-n.invariant (ap not (eq-eqb _ 0 (sym c.owner.ensures ∙ c.if-owner-ne0.false)))

pub returns : goal.returns
returns c =
    let nodes = c.node_count-n-end.ensures.value ∙ ap (2 ^◌) c.dimension.ensures in
    none_found (λ n. held_in (view c.args.self.now.bytes.now) n c.args.p.0) _ (λ k l. c.loop-n.invariant k (omega (arith, nodes, l, c.loop-n-test.false)))
