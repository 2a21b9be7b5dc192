-- `line_answer::carry_out` meets its contract.
use Rattle.printed_line.specs.PrintedLine.{call_row}
use Rattle.printed_line.proofs.Answers.{answered}
use Rattle.line_answer.proofs.carry_out.Goals as goal

pub returns-in-Make : goal.returns-in-Make
unfolding call_row
returns-in-Make c =
    rw c.in-Make.is
    (answered (rw (← c.answer-answer.ensures) at c.make.ensures) (c.of_answer.ensures _))

pub returns-in-Block : goal.returns-in-Block
unfolding call_row
returns-in-Block c =
    rw c.in-Block.is
    (answered (rw (← c.answer-answer-in-Block.ensures) at c.block.ensures) (c.of_port.ensures _))

pub returns-in-Unblock : goal.returns-in-Unblock
unfolding call_row
returns-in-Unblock c =
    rw c.in-Unblock.is
    (answered (rw (← c.answer-answer-in-Unblock.ensures) at c.unblock.ensures) (c.of_port-in-Unblock.ensures _))

pub returns-in-Open : goal.returns-in-Open
returns-in-Open c =
    rw c.in-Open.is c.open.ensures

pub returns-in-Close : goal.returns-in-Close
unfolding call_row
returns-in-Close c =
    rw c.in-Close.is
    (answered (rw (← c.answer-answer-in-Close.ensures) at c.close.ensures) (c.of_channel.ensures _))

pub returns-in-Arm : goal.returns-in-Arm
unfolding call_row
returns-in-Arm c =
    rw c.in-Arm.is
    (answered (rw (← c.answer-answer-in-Arm.ensures) at c.arm.ensures) (c.of_channel-in-Arm.ensures _))

pub returns-in-Disarm : goal.returns-in-Disarm
unfolding call_row
returns-in-Disarm c =
    rw c.in-Disarm.is
    (answered (rw (← c.answer-answer-in-Disarm.ensures) at c.disarm.ensures) (c.of_channel-in-Disarm.ensures _))

pub returns-in-Fold : goal.returns-in-Fold
unfolding call_row
returns-in-Fold c =
    rw c.in-Fold.is
    (answered (rw (← c.answer-answer-in-Fold.ensures) at c.fold.ensures) (c.of_answer-in-Fold.ensures _))
