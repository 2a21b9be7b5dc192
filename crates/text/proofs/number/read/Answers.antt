-- `text::number::read` meets its contract.
use mathlib.Core.Path.{◌≡◌, ◌∙◌}
use mathlib.Core.Logic.{◌≢◌}
use Rattle.std.proofs.Common.{rules, tests, ◌≤◌, length}
use lib.ListN.{get_or}
use Rattle.text.proofs.Reading.{read_empty, read_zero, read_alone, read_more}
use Rattle.text.proofs.number.read.Goals as goal
use Rattle.text.proofs.number.read.Goals.{in_default-via-then-field-lt2+in_default-1, in_default-via-else-field-lt2+in_default-1}

pub returns-in-48 : goal.returns-in-48
returns-in-48 c =
    let zero : get_or c.args.field.now 0 0 ≡ 48 = search rules in
    read_alone c.args.field.now c.in-48.len_at_least c.in-48.len_below zero

pub returns-in-empty : goal.returns-in-empty
returns-in-empty c = read_empty c.args.field.now c.in-empty.len_below

pub returns-in-empty-2 : goal.returns-in-empty-2
returns-in-empty-2 c =
    let zero : get_or c.args.field.now 0 0 ≡ 48 = search rules in
    read_zero c.args.field.now c.in-empty.len_at_least zero

pub returns-in_default : goal.returns-in_default
returns-in_default c =
    let other : get_or c.args.field.now 0 0 ≢ 48 = elim c.in_default.branch [
      | in_default-via-then-field-lt2+in_default-1 w ↦ search rules
      | in_default-via-else-field-lt2+in_default-1 w ↦ search rules
    ] in
    let some : 1 ≤ length c.args.field.now = search (rules, tests) in
    c.digits.ensures ∙ read_more c.args.field.now some other
