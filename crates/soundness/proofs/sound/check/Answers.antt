-- `soundness::sound::check` meets its contract: a table of the right length and dimension is sound or not.
use mathlib.Core.Path.{sym, ◌∙◌}
use native.Mathlib.Omega.{arith}
use Rattle.soundness.proofs.Passing.{not_sound, usable}
use Rattle.soundness.proofs.sound.check.Goals as goal

pub returns : goal.returns
returns g c =
    let e = c.dimension-d.ensures in
    usable g.L.Layout.PORTS c.args.t.now (c.if-t-LENGTH.false ∙ c.LENGTH.ensures ∙ g.met.L.Layout.laws.long_is) (omega (arith, e, c.if-d-lt1.false)) (omega (arith, e, c.if-d-gt-LARGEST_DIMENSION.false)) (sym c.entries_sound.ensures ∙ c.if-not-entries_sound.false)

pub returns-then-not-entries_sound : goal.returns-then-not-entries_sound
returns-then-not-entries_sound g c =
    let e = c.dimension-d.ensures in
    not_sound g.L.Layout.PORTS c.args.t.now (c.if-t-LENGTH.false ∙ c.LENGTH.ensures ∙ g.met.L.Layout.laws.long_is) (omega (arith, e, c.if-d-lt1.false)) (omega (arith, e, c.if-d-gt-LARGEST_DIMENSION.false)) (sym c.entries_sound.ensures ∙ c.if-not-entries_sound.true)
