-- `input_line::read` meets its contract.
use mathlib.Core.Path.{◌≡◌, ◌∙◌, sym, ap}
use mathlib.Core.Logic.{◌≢◌}
use lib.ListN.{get_or}
use Rattle.std.proofs.Common.{rules}
use Rattle.input_line.specs.Line.{with_numbers}
use Rattle.input_line.proofs.Asking.{too_long_line, short_line, second_byte, letter_line}
use Rattle.input_line.proofs.read.Goals as goal

pub returns-then-line-gt-LONGEST : goal.returns-then-line-gt-LONGEST
returns-then-line-gt-LONGEST c = sym (too_long_line c.args.line.now c.if-line-gt-LONGEST.true)

pub returns-in_default : goal.returns-in_default
returns-in_default c = sym (short_line c.args.line.now c.in_default.len_below)

pub returns-in_default-2 : goal.returns-in_default-2
returns-in_default-2 c =
    let other : get_or c.args.line.now 1 0 ≢ 32 = search rules in
    sym (second_byte c.args.line.now c.in_default.len_at_least c.if-line-gt-LONGEST.false other)

pub returns-in_err-read-in-32 : goal.returns-in_err-read-in-32
returns-in_err-read-in-32 c =
    let space : get_or c.args.line.now 1 0 ≡ 32 = search rules in
    let none = c.in_err-read-in-32.ensures.unread in
    rw c.from_residual.ensures (sym (letter_line c.args.line.now c.in-32.len_at_least c.if-line-gt-LONGEST.false space ∙ none (get_or c.args.line.now 0 0)))

pub returns-in_ok-read-in-32 : goal.returns-in_ok-read-in-32
unfolding with_numbers
returns-in_ok-read-in-32 c =
    let space : get_or c.args.line.now 1 0 ≡ 32 = search rules in
    let read = c.in_ok-read-in-32.ensures.read in
    rw (c.by_letter.ensures, c.as_slice.ensures) (sym (letter_line c.args.line.now c.in-32.len_at_least c.if-line-gt-LONGEST.false space ∙ ap (with_numbers (get_or c.args.line.now 0 0)) read))
