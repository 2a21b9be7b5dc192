-- `text::put::decimal` meets its contract: the digits of what is left, and behind them those that were written, are the number.
use Rattle.text.proofs.Fields.{Writes}
use Rattle.text.proofs.put.decimal.Given as goal

abbrev pub invariant-loop-i : goal.invariant-loop-i
invariant-loop-i l = Writes l.n l.at l.initial.out l.out l.left l.i
