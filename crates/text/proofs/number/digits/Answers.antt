-- `text::number::digits` meets its contract: what was read so far and the digits that are left say what the field says.
use mathlib.Core.Path.{◌≡◌, ◌∙◌, sym, ap}
use Prim.Native.Nat.{◌+◌, ◌-◌, ◌*◌}
use native.Mathlib.Omega.{arith}
use lib.ListN.{get_or, drop}
use Rattle.text.specs.Written.{said}
use Rattle.text.proofs.Reading.{field_end, field_digit, field_many, field_other}
use Rattle.text.proofs.number.digits.Goals as goal

pub returns-in_err-checked_mul : goal.returns-in_err-checked_mul
returns-in_err-checked_mul c =
    let many = c.in_err-checked_mul.ensures in
    c.from_residual.ensures ∙ field_many c.args.field.now c.loop-x.n c.loop-x.x-index c.loop-x-test.true (omega (arith, many)) ∙ c.loop-x.invariant.1

pub returns-in_err-digit : goal.returns-in_err-digit
returns-in_err-digit c =
    c.from_residual-in_err-digit.ensures ∙ field_other c.args.field.now c.loop-x.n c.loop-x.x-index c.loop-x-test.true c.in_err-digit.ensures ∙ c.loop-x.invariant.1

pub returns-in_err-n : goal.returns-in_err-n
returns-in_err-n c =
    let many = c.in_err-n.ensures in
    let tens = c.in_ok-checked_mul.ensures.1 in
    let last = c.in_ok-digit.ensures.1 in
    c.from_residual-in_err-n.ensures ∙ field_many c.args.field.now c.loop-x.n c.loop-x.x-index c.loop-x-test.true (omega (arith, many, tens, last)) ∙ c.loop-x.invariant.1

pub loop-x-preserved : goal.loop-x-preserved
loop-x-preserved c =
    let f = c.args.field.now in
    let i = c.loop-x.x-index in
    let tens = c.in_ok-checked_mul.ensures.1 in
    let last = c.in_ok-digit.ensures in
    let more = c.in_ok-n.ensures.1 in
    let n : c.in_ok-n.n ≡ 10 * c.loop-x.n + (get_or f i 0 - 48) = omega (arith, tens, last.1, more) in
    (omega (arith, tens, last.1, more), ap (λ m. said m (drop (i + 1) f)) n ∙ field_digit f c.loop-x.n i c.loop-x-test.true last.0.0 last.0.1 ∙ c.loop-x.invariant.1)

pub returns : goal.returns
returns c = sym (field_end c.args.field.now c.loop-x.n c.loop-x.x-index (omega (arith, c.loop-x-test.false)) (omega arith)) ∙ c.loop-x.invariant.1
