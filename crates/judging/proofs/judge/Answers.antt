-- `judging::judge` meets its contract: the first test that applies is the answer, and what each part asks of the lines is what the tests before it said.
use mathlib.Core.Path.{sym, ◌∙◌}
use Rattle.table.specs.View.{view}
use Rattle.book.proofs.Lines.{formed}
use Rattle.judging.specs.Judged.{judge_facts}
use Rattle.judging.proofs.BookLines.{lines_inside, lines_in_cube}
use Rattle.judging.proofs.Judging.{ill_formed, unfit_circuit, unfit_links, unfit_targets, accepted}
use Rattle.judging.proofs.judge.Goals as goal

pub returns-then-not-well_formed : goal.returns-then-not-well_formed
returns-then-not-well_formed g c = ill_formed _ _ _ _ _ (sym c.well_formed-2.ensures ∙ c.if-not-well_formed.true)

pub lines-requires : goal.lines-requires
lines-requires g c = (formed _ _ _ _ (sym c.well_formed-2.ensures ∙ c.if-not-well_formed.false)).0

pub circuits_fit-requires : goal.circuits_fit-requires
circuits_fit-requires g c = rw c.lines.ensures (lines_inside _ _ _ _ (sym c.well_formed-2.ensures ∙ c.if-not-well_formed.false))

pub returns-then-not-circuits_fit : goal.returns-then-not-circuits_fit
returns-then-not-circuits_fit g c =
    unfit_circuit _ _ _ _ _ (sym c.well_formed-2.ensures ∙ c.if-not-well_formed.false) (rw c.lines.ensures at (sym c.circuits_fit.ensures ∙ c.if-not-circuits_fit.true))

pub lines-requires-2 : goal.lines-requires-2
lines-requires-2 g c = (formed _ _ _ _ (sym c.well_formed-2.ensures ∙ c.if-not-well_formed.false)).0

pub links_fit-requires : goal.links_fit-requires
unfolding view
links_fit-requires g c =
    let inside = lines_inside _ _ _ _ (sym c.well_formed-2.ensures ∙ c.if-not-well_formed.false) in
    rw c.lines-2.ensures (lines_in_cube _ (judge_facts (view c.args.table.now.bytes.now)) _ inside (rw c.lines.ensures at (sym c.circuits_fit.ensures ∙ c.if-not-circuits_fit.false)))

pub returns-then-not-links_fit : goal.returns-then-not-links_fit
returns-then-not-links_fit g c =
    let fit = rw c.lines.ensures at (sym c.circuits_fit.ensures ∙ c.if-not-circuits_fit.false) in
    unfit_links _ _ _ _ _ (sym c.well_formed-2.ensures ∙ c.if-not-well_formed.false) fit (rw c.lines-2.ensures at (sym c.links_fit.ensures ∙ c.if-not-links_fit.true))

pub lines-requires-3 : goal.lines-requires-3
lines-requires-3 g c = (formed _ _ _ _ (sym c.well_formed-2.ensures ∙ c.if-not-well_formed.false)).0

pub targets_fit-requires : goal.targets_fit-requires
unfolding view
targets_fit-requires g c =
    let inside = lines_inside _ _ _ _ (sym c.well_formed-2.ensures ∙ c.if-not-well_formed.false) in
    rw c.lines-3.ensures (lines_in_cube _ (judge_facts (view c.args.table.now.bytes.now)) _ inside (rw c.lines.ensures at (sym c.circuits_fit.ensures ∙ c.if-not-circuits_fit.false)))

pub returns-then-not-targets_fit : goal.returns-then-not-targets_fit
returns-then-not-targets_fit g c =
    let fit = rw c.lines.ensures at (sym c.circuits_fit.ensures ∙ c.if-not-circuits_fit.false) in
    let free = rw c.lines-2.ensures at (sym c.links_fit.ensures ∙ c.if-not-links_fit.false) in
    unfit_targets _ _ _ _ _ (sym c.well_formed-2.ensures ∙ c.if-not-well_formed.false) fit free (rw c.lines-3.ensures at (sym c.targets_fit.ensures ∙ c.if-not-targets_fit.true))

pub returns : goal.returns
returns g c =
    let fit = rw c.lines.ensures at (sym c.circuits_fit.ensures ∙ c.if-not-circuits_fit.false) in
    let free = rw c.lines-2.ensures at (sym c.links_fit.ensures ∙ c.if-not-links_fit.false) in
    accepted _ _ _ _ _ (sym c.well_formed-2.ensures ∙ c.if-not-well_formed.false) fit free (rw c.lines-3.ensures at (sym c.targets_fit.ensures ∙ c.if-not-targets_fit.false))
