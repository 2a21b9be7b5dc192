-- `line_answer::unreadable` meets its contract.
use native.Mathlib.Omega.{arith}
use Rattle.text.specs.Text.{digits, decimal}
use Rattle.text.specs.Row.{field_bytes}
use Rattle.text.proofs.Rows.{behind_spaces}
use Rattle.text.proofs.Writing.{◌then◌, retext}
use Rattle.line_answer.proofs.WrittenLine.{unread_row, unread_width}
use Rattle.line_answer.proofs.unreadable.Goals as goal

pub decimal-end-requires : goal.decimal-end-requires
decimal-end-requires c =
    rw c.from.ensures (omega (arith, unread_width c.args.line, c.requires))

pub text-requires : goal.text-requires
unfolding behind_spaces field_bytes decimal digits
text-requires c =
    omega (arith, unread_width c.args.line, (rw c.from.ensures at c.decimal-end.ensures).place, c.decimal-end.auto.out, c.requires)

pub returns : goal.returns
unfolding behind_spaces field_bytes decimal digits
returns c =
    retext (unread_row c.args.line) ((rw c.from.ensures at c.decimal-end.ensures) then c.text.ensures)
