-- `book::Book::lookup` meets its contract: its tests in their order, and then the ports of the circuit's line.
use mathlib.Core.Path.{◌≡◌, ap, sym, ◌∙◌}
use native.Mathlib.Omega.{arith}
use lib.Seq.{sets}
use Rattle.common.specs.declared.refusal.Refusal.TheVariants.{NoCircuit}
use Rattle.book.proofs.Lines.{formed}
use Rattle.book.proofs.LookupAnswers.{looked_ill, unlisted_refused, its_line, listed_short, path_fits, listed_found}
use Rattle.std.proofs.lemmas.Result.{err_from_is_err_and}
use Rattle.book.proofs.Book.lookup.Goals as goal

pub returns-then-not-well_formed : goal.returns-then-not-well_formed
returns-then-not-well_formed c = looked_ill _ _ _ _ _ _ (sym c.well_formed-2.ensures ∙ c.if-not-well_formed.true)

pub lines-requires : goal.lines-requires
lines-requires c = (formed _ _ _ _ (sym c.well_formed-2.ensures ∙ c.if-not-well_formed.false)).0

pub returns-in_err-x : goal.returns-in_err-x
returns-in_err-x c =
    let none = rw (c.in_err-x.ensures.ok_part, c.lines.ensures) at c.listed_line.ensures in
    let refused = rw c.in_err-x.ensures.ok_part at c.in_err-x.ensures.value in
    let p = err_from_is_err_and c.from_residual.result c.from_residual.ensures.1 in
    let e : p.0 ≡ NoCircuit = cc in
    rw (p.1, e) (unlisted_refused _ _ _ _ _ _ (sym c.well_formed-2.ensures ∙ c.if-not-well_formed.false) none)

pub returns-then-buffer-from : goal.returns-then-buffer-from
returns-then-buffer-from c =
    let well = sym c.well_formed-2.ensures ∙ c.if-not-well_formed.false in
    let found = rw (c.in_ok-x.ensures.ok_part, c.lines.ensures) at c.listed_line.ensures in
    listed_short _ _ _ _ _ _ well _ found.0 found.1 (rw c.from.ensures at c.if-buffer-from.true)

pub path-requires : goal.path-requires
path-requires c =
    let well = sym c.well_formed-2.ensures ∙ c.if-not-well_formed.false in
    let found = rw (c.in_ok-x.ensures.ok_part, c.lines.ensures) at c.listed_line.ensures in
    let x = its_line _ _ _ _ _ c.args.buffer.now well _ found.0 found.1 in
    let f = formed _ _ _ _ well in
    omega (arith, x.inside, f.1)

pub put_path-requires : goal.put_path-requires
put_path-requires c =
    let found = rw (c.in_ok-x.ensures.ok_part, c.lines.ensures) at c.listed_line.ensures in
    rw c.path.ensures (path_fits _ _ _ _ _ _ (sym c.well_formed-2.ensures ∙ c.if-not-well_formed.false) _ found.0 found.1 (rw c.from.ensures at c.if-buffer-from.false))

pub returns : goal.returns
returns c =
    let found = rw (c.in_ok-x.ensures.ok_part, c.lines.ensures) at c.listed_line.ensures in
    listed_found _ _ _ _ _ _ (sym c.well_formed-2.ensures ∙ c.if-not-well_formed.false) _ found.0 found.1 (rw c.from.ensures at c.if-buffer-from.false) (c.put_path.ensures ∙ ap (sets c.args.buffer.now 0) c.path.ensures)
