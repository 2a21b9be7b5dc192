-- `text::put::digit_count` meets its contract: each number of digits by the powers of ten around it.
use mathlib.Core.Path.{ap, sym}
use native.Mathlib.Omega.{arith}
use lib.ListN.{length}
use Rattle.text.proofs.Digits.{decimal_short, digits_between}
use Rattle.text.proofs.put.digit_count.Goals as goal

pub returns-in-0-to-9 : goal.returns-in-0-to-9
returns-in-0-to-9 c = sym (ap length (decimal_short _ (omega arith)))

pub returns-in-10-to-99 : goal.returns-in-10-to-99
returns-in-10-to-99 c = digits_between 1 _ (omega arith) (omega arith)

pub returns-in-100-to-999 : goal.returns-in-100-to-999
returns-in-100-to-999 c = digits_between 2 _ (omega arith) (omega arith)

pub returns-in-1000-to-9999 : goal.returns-in-1000-to-9999
returns-in-1000-to-9999 c = digits_between 3 _ (omega arith) (omega arith)

pub returns-in-10000-to-99999 : goal.returns-in-10000-to-99999
returns-in-10000-to-99999 c = digits_between 4 _ (omega arith) (omega arith)

pub returns-in-100000-to-999999 : goal.returns-in-100000-to-999999
returns-in-100000-to-999999 c = digits_between 5 _ (omega arith) (omega arith)

pub returns-in-1000000-to-9999999 : goal.returns-in-1000000-to-9999999
returns-in-1000000-to-9999999 c = digits_between 6 _ (omega arith) (omega arith)

pub returns-in-10000000-to-99999999 : goal.returns-in-10000000-to-99999999
returns-in-10000000-to-99999999 c = digits_between 7 _ (omega arith) (omega arith)

pub returns-in-100000000-to-999999999 : goal.returns-in-100000000-to-999999999
returns-in-100000000-to-999999999 c = digits_between 8 _ (omega arith) (omega arith)

pub returns-in_default : goal.returns-in_default
returns-in_default c = digits_between 9 _ (omega arith) (omega arith)
