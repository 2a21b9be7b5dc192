-- `text::put::decimal` meets its contract: the digits of what is left, and behind them those that were written, are the number.
use Rattle.text.proofs.Fields.{next_digit}
use Rattle.text.proofs.put.decimal.Goals as goal

pub loop-i-preserved : goal.loop-i-preserved
loop-i-preserved c = next_digit c.loop-i.invariant c.loop-i-test.true c.digit.ensures
