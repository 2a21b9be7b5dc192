-- `SoundTable<Wide>::partner_held` meets its contract: the dimensions are looked at one after another.
use mathlib.Core.Path.{sym, ◌∙◌}
use native.Mathlib.Omega.{arith}
use Rattle.call_tests.proofs.PartnersHeld.{found, none_found, one_more}
use Rattle.call_tests.proofs.folding.SoundTable+Wide.partner_held.Goals as goal

pub returns-then-unfolds_held : goal.returns-then-unfolds_held
returns-then-unfolds_held c = found _ _ c.loop-p.p (omega (arith, c.dimension-p-end.ensures, c.loop-p-test.true)) (sym c.unfolds_held.ensures ∙ c.if-unfolds_held.true)

pub loop-p-preserved : goal.loop-p-preserved
loop-p-preserved c = one_more _ c.loop-p.p c.loop-p.invariant (sym c.unfolds_held.ensures ∙ c.if-unfolds_held.false)

pub returns : goal.returns
returns c = none_found _ _ (λ k l. c.loop-p.invariant k (omega (arith, c.dimension-p-end.ensures, l, c.loop-p-test.false)))
