-- `answers::link_state_given` meets its contract: blocked, or free or held by its owner.
use mathlib.Core.Path.{sym, ◌∙◌}
use Rattle.table.specs.View.{view}
use Rattle.answers.proofs.PassOnBytes.{state_blocked, state_free, state_held}
use Rattle.answers.proofs.link_state_given.Goals as goal

pub returns-then-owner-eq0 : goal.returns-then-owner-eq0
unfolding view
returns-then-owner-eq0 g c =
    state_free (view c.args.t.now) c.args.n.0 c.args.p.0 (sym c.requires.enabled_value ∙ c.if-enabled.true) c.owner.ensures c.if-owner-eq0.true

pub returns-else-owner-eq0 : goal.returns-else-owner-eq0
unfolding view
returns-else-owner-eq0 g c =
    state_held (view c.args.t.now) c.args.n.0 c.args.p.0 (sym c.requires.enabled_value ∙ c.if-enabled.true) c.owner.ensures c.if-owner-eq0.false

pub returns-else-enabled : goal.returns-else-enabled
unfolding view
returns-else-enabled g c =
    state_blocked (view c.args.t.now) c.args.n.0 c.args.p.0 (sym c.requires.enabled_value ∙ c.if-enabled.false)
