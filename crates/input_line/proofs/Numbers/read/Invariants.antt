-- `input_line::Numbers::read` meets its contract: the numbers read so far stand in front of those of the fields that are left.
use Rattle.std.proofs.Common.{◌≡◌, length, drop}
use Rattle.text.specs.Lines.{fields}
use Rattle.input_line.specs.Line.{numbers}
use Rattle.input_line.proofs.Asking.{joined}
use Rattle.input_line.proofs.Numbers.read.Given as goal

abbrev pub invariant-loop-field : goal.invariant-loop-field
invariant-loop-field l =
    (goal.iterator-loop-field).can_next l.field-iterator
    × (goal.iterator-loop-field).is_finite l.field-iterator
    × (numbers (fields l.text) ≡ joined l.numbers (numbers (drop (length l.yielded) (fields l.text))))
    × (length l.numbers ≡ length l.yielded)
