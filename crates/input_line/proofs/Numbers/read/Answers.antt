-- `input_line::Numbers::read` meets its contract: the numbers read so far stand in front of those of the fields that are left.
use Rattle.std.proofs.Common.{◌≡◌, ℕ, ◌+◌, ◌<◌, List, [], length, get_or, ap, sym, ◌∙◌, arith, rules, of_calls, tests, eqb}
use Rattle.std.specs.List.{slice_split}
use Rattle.std.proofs.lemmas.List.{get_or_read, length_push}
use Rattle.std.proofs.lemmas.Iterator.Splits.{YieldsList-from_slice_split}
use Rattle.std.proofs.lemmas.Iterator.Consumers.{YieldsList-turn, YieldsList-end}
use Rattle.text.specs.Text.{space, field_number}
use Rattle.text.specs.Lines.{fields}
use Rattle.text.proofs.Cuts.{fields_split}
use Rattle.text.proofs.Reading.{read_some, read_not}
use Rattle.input_line.specs.Line.{numbers}
use Rattle.input_line.proofs.Asking.{joined, joined_none, numbers_none, numbers_more, numbers_last, unread, many}
use Rattle.input_line.proofs.Numbers.read.Goals as goal

-- the next part of a text is its next field
field_is : (text : List ℕ) (k : ℕ) {f : List ℕ} → (k < length (slice_split (λ b. eqb b space) text)) × (f ≡ get_or (slice_split (λ b. eqb b space) text) k f)
    → (k < length (fields text)) × (f ≡ get_or (fields text) k [])
field_is text k {f = f} h = rw (fields_split text) (h.0, get_or_read (slice_split (λ b. eqb b space) text) k f h.0 h.1 [])

pub loop-field-init : goal.loop-field-init
loop-field-init c =
    let none = sym c.new-numbers.ensures in
    (search of_calls, search of_calls, joined_none (numbers (fields c.args.text.now)) ∙ ap (λ ns. joined ns (numbers (fields c.args.text.now))) none, ap length (sym none))

pub returns-in_err-read : goal.returns-in_err-read
returns-in_err-read c =
    let t = field_is c.args.text.now _ (YieldsList-turn (YieldsList-from_slice_split _ (λ b. eqb b space) c.args.text.now (cc) (cc) (cc) (λ x b q k. search (rules, tests))) c.loop-field.yielded _ c.loop-field.yielded_by _ _ c.in-Some.field c.in-Some.is c.next.ensures.steps) in
    let none = read_not _ c.in_err-read.ensures in
    rw c.from_residual.ensures (record { read = tt; unread = λ x. unread x _ (c.loop-field.invariant.2 ∙ numbers_none (fields c.args.text.now) c.loop-field.numbers (length c.loop-field.yielded) t.0 (ap field_number (sym t.1) ∙ none)) })

pub returns-in_err-push : goal.returns-in_err-push
returns-in_err-push c =
    let t = field_is c.args.text.now _ (YieldsList-turn (YieldsList-from_slice_split _ (λ b. eqb b space) c.args.text.now (cc) (cc) (cc) (λ x b q k. search (rules, tests))) c.loop-field.yielded _ c.loop-field.yielded_by _ _ c.in-Some.field c.in-Some.is c.next.ensures.steps) in
    let full = c.in_err-push.ensures in
    rw c.from_residual-in_err-push.ensures (record { read = tt; unread = many (fields c.args.text.now) (omega (arith, t.0, full, c.loop-field.invariant.3)) })

pub loop-field-preserved : goal.loop-field-preserved
loop-field-preserved c =
    let t = field_is c.args.text.now _ (YieldsList-turn (YieldsList-from_slice_split _ (λ b. eqb b space) c.args.text.now (cc) (cc) (cc) (λ x b q k. search (rules, tests))) c.loop-field.yielded _ c.loop-field.yielded_by _ _ c.in-Some.field c.in-Some.is c.next.ensures.steps) in
    let n = read_some _ _ c.in_ok-read.ensures in
    let more = numbers_more (fields c.args.text.now) c.loop-field.numbers (length c.loop-field.yielded) t.0 _ (ap field_number (sym t.1) ∙ n) in
    rw (c.in_ok-push.ensures, length_push c.loop-field.yielded c.in-Some.field, length_push c.loop-field.numbers c.in_ok-read.field-0)
    (search rules, search rules, c.loop-field.invariant.2 ∙ more, ap (λ m. m + 1) c.loop-field.invariant.3)

pub returns : goal.returns
returns c =
    let t = YieldsList-end (YieldsList-from_slice_split _ (λ b. eqb b space) c.args.text.now (cc) (cc) (cc) (λ x b q k. search (rules, tests))) c.loop-field.yielded _ c.loop-field.yielded_by _ _ c.in-None.is c.next.ensures.steps in
    let all = ap length (fields_split c.args.text.now) in
    record { read = c.loop-field.invariant.2 ∙ numbers_last (fields c.args.text.now) c.loop-field.numbers (length c.loop-field.yielded) (omega (arith, t.1, all)); unread = tt }
