-- `line_answer::answer` meets its contract.
use native.Mathlib.Omega.{arith}
use mathlib.Core.Path.{sym}
use Rattle.printed_line.specs.PrintedLine.{row_for}
use Rattle.line_answer.proofs.WrittenLine.{line_width, line_written, unread_written}
use Rattle.line_answer.proofs.answer.Goals as goal

pub unreadable-requires : goal.unreadable-requires
unfolding row_for
unreadable-requires c =
    rw (sym (rw c.in_default.is at c.read.ensures)) at c.requires

pub returns-in_default : goal.returns-in_default
returns-in_default c =
    unread_written (rw c.in_default.is at c.read.ensures) c.unreadable.ensures

pub write-requires : goal.write-requires
write-requires c =
    omega (arith, line_width (rw c.in-Some.is at c.read.ensures) c.carry_out-row.ensures, c.requires)

pub returns : goal.returns
returns c =
    line_written (rw c.in-Some.is at c.read.ensures) c.carry_out-row.ensures c.write.ensures
