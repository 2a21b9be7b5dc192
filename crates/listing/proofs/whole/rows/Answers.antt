-- `listing::whole::rows` meets its contract: what is left to write behind what was written are the lines of the input.
use Rattle.layout.specs.Layout.{wide_ports}
use Rattle.std.proofs.Common.{◌≡◌, ℕ, ◌+◌, ◌<◌, List, [], length, get_or, drop, refl, ap, ◌∙◌, arith, rules, tests, eqb}
use Rattle.std.specs.List.{slice_split, zip, range_with_len}
use Rattle.std.proofs.lemmas.List.{get_or_read, length_push}
use Rattle.std.proofs.lemmas.List.FromFn.{length-range_with_len, get_or-range_with_len}
use Rattle.std.proofs.lemmas.List.Splits.{length-slice_split}
use Rattle.std.proofs.lemmas.List.Sums.{count_by-le-length}
use Rattle.std.proofs.lemmas.Slice.Zip.{length-zip, get_or-zip}
use lib.ListN.{length-append}
use Rattle.std.specs.declared.option.Option.{Option}
use Rattle.std.specs.declared.iter.Zip.{Zip}
use Rattle.std.specs.declared.ops.Range.{Range}
use Rattle.std.specs.Iterator.Adapters.{zip_first, zip_second}
use Rattle.std.proofs.iter.Yields.{nat_range_steps}
use Rattle.std.proofs.lemmas.Iterator.{YieldsList, zips, YieldsList-from_range, YieldsList-from_zip}
use Rattle.std.proofs.lemmas.Iterator.Splits.{YieldsList-from_slice_split}
use Rattle.std.proofs.lemmas.Iterator.Consumers.{YieldsList-at, YieldsList-turn, YieldsList-end}
use Rattle.text.specs.Text.{newline}
use Rattle.text.specs.Lines.{lines}
use Rattle.text.specs.Row.{row_text, rows_text}
use Rattle.text.proofs.Writing.{left_all, left_more, left_none, retext}
use Rattle.input_line.specs.Line.{asks}
use Rattle.ownership.specs.OnTable.{table_step}
use Rattle.printed_line.specs.PrintedLine.{row_for, state_after}
use Rattle.listing.specs.Listing.{rows}
use Rattle.listing.proofs.Remaining.{rows_step, rows_end, rows_none}
use Rattle.listing.proofs.whole.rows.Goals as goal

-- the parts of a text, each behind its number
numbered : {T B C : Type 0} {others : T → Option B → T → Type 0} {w : B → C} {ps : List C} {s z : Zip (Range ℕ) T} → s ≡ z → zip_first z ≡ record { start = 1; end = 65535 }
    → YieldsList others w (zip_second z) ps → YieldsList {B = ℕ × C} (zips nat_range_steps others) (λ p. (p.0, w p.1)) s (zip (range_with_len 1 65534) ps)
numbered same first e = YieldsList-at same (YieldsList-from_zip (YieldsList-from_range 1 65535 65534 first refl) e)

-- the next line with its number, by the next pair of a number and a part of a text that an input is cut into
line_is : (input text : List ℕ) (k : ℕ) {n : ℕ} {l : List ℕ} → lines input ≡ slice_split (λ b. eqb b newline) text
    → (k < length (zip (range_with_len 1 65534) (slice_split (λ b. eqb b newline) text))) × ((n, l) ≡ get_or (zip (range_with_len 1 65534) (slice_split (λ b. eqb b newline) text)) k (n, l))
    → (n ≡ k + 1) × (k < length (lines input)) × (l ≡ get_or (lines input) k [])
line_is input text k {n = n} {l = l} e h =
    let ps = slice_split (λ b. eqb b newline) text in
    let long = length-zip (range_with_len 1 65534) ps in
    let numbers = length-range_with_len 1 65534 in
    let few : k < 65534 = omega (arith, h.0, long, numbers) in
    let part : k < length ps = omega (arith, h.0, long) in
    let both = h.1 ∙ get_or-zip (range_with_len 1 65534) ps k (n, l) (omega (arith, few, numbers)) part in
    rw e (ap (λ (p : ℕ × List ℕ). p.0) both ∙ get_or-range_with_len 1 65534 k n few ∙ omega arith, part, get_or_read ps k l part (ap (λ (p : ℕ × List ℕ). p.1) both) [])

pub returns-then-is_empty : goal.returns-then-is_empty
returns-then-is_empty c =
    let none : length c.args.input.now ≡ 0 = search (rules, tests) in
    left_none (left_all c.args.out.now c.args.at _) (rows_none c.args.t.now c.args.input.now 1 none)

pub answer-end-requires : goal.answer-end-requires
answer-end-requires c =
    let text = c.without_end.result.now in
    let ls = lines c.args.input.now in
    let k = length c.loop-line.yielded in
    let t = line_is c.args.input.now text k c.without_end.ensures.0 (YieldsList-turn (numbered c.into_iter-line-iterator.ensures.into_iter_gives c.zip-line-items.ensures.first (YieldsList-at c.zip-line-items.ensures.second (YieldsList-from_slice_split {s = c.split.result} _ (λ b. eqb b newline) text (cc) (cc) (cc) (λ x b q k. search (rules, tests))))) c.loop-line.yielded c.loop-line.line-iterator c.loop-line.yielded_by c.next.result c.next.new.self (c.in-Some.line, c.in-Some.text) c.in-Some.is c.next.ensures.steps) in
    let left = c.loop-line.invariant.3 in
    let shown = row_text (row_for (table_step wide_ports) c.loop-line.t (k + 1) (asks (get_or ls k []))) in
    let more = rows_text (rows (table_step wide_ports) (state_after (table_step wide_ports) c.loop-line.t (asks (get_or ls k []))) (k + 1 + 1) (drop (k + 1) ls)) in
    let step = ap length (rows_step c.loop-line.t (k + 1) ls k t.1) in
    rw (t.0, t.2) (omega (arith, step, length-append shown more, left.place, left.long, c.requires.1))

pub loop-line-preserved : goal.loop-line-preserved
loop-line-preserved c =
    let text = c.without_end.result.now in
    let ls = lines c.args.input.now in
    let k = length c.loop-line.yielded in
    let t = line_is c.args.input.now text k c.without_end.ensures.0 (YieldsList-turn (numbered c.into_iter-line-iterator.ensures.into_iter_gives c.zip-line-items.ensures.first (YieldsList-at c.zip-line-items.ensures.second (YieldsList-from_slice_split {s = c.split.result} _ (λ b. eqb b newline) text (cc) (cc) (cc) (λ x b q k. search (rules, tests))))) c.loop-line.yielded c.loop-line.line-iterator c.loop-line.yielded_by c.next.result c.next.new.self (c.in-Some.line, c.in-Some.text) c.in-Some.is c.next.ensures.steps) in
    let left = c.loop-line.invariant.3 in
    let wrote = c.answer-end.ensures in
    let step = rows_step c.loop-line.t (k + 1) ls k t.1 in
    let next : c.answer-end.new.t ≡ state_after (table_step wide_ports) c.loop-line.t (asks (get_or ls k [])) = wrote.table ∙ ap (λ l. state_after (table_step wide_ports) c.loop-line.t (asks l)) t.2 in
    let shown : row_text (row_for (table_step wide_ports) c.loop-line.t c.in-Some.line (asks c.in-Some.text.now)) ≡ row_text (row_for (table_step wide_ports) c.loop-line.t (k + 1) (asks (get_or ls k []))) = rw (t.0, t.2) refl in
    rw (length_push c.loop-line.yielded (c.in-Some.line, c.in-Some.text)) (
      search rules,
      search rules,
      c.answer-end.auto.t ∙ c.loop-line.invariant.2,
      left_more _ left (rw next step) c.answer-end.auto.out (retext shown wrote.text),
    )

pub returns : goal.returns
returns c =
    let text = c.without_end.result.now in
    let ps = slice_split (λ b. eqb b newline) text in
    let t = YieldsList-end (numbered c.into_iter-line-iterator.ensures.into_iter_gives c.zip-line-items.ensures.first (YieldsList-at c.zip-line-items.ensures.second (YieldsList-from_slice_split {s = c.split.result} _ (λ b. eqb b newline) text (cc) (cc) (cc) (λ x b q k. search (rules, tests))))) c.loop-line.yielded c.loop-line.line-iterator c.loop-line.yielded_by c.next.result c.next.new.self c.in-None.is c.next.ensures.steps in
    let few = count_by-le-length (λ b. eqb b newline) text in
    left_none c.loop-line.invariant.3 (rows_end c.loop-line.t (length c.loop-line.yielded + 1) (lines c.args.input.now) (length c.loop-line.yielded)
    (omega (arith, t.1, few, c.without_end.ensures.1, c.requires.0, length-zip (range_with_len 1 65534) ps, length-range_with_len 1 65534, length-slice_split (λ b. eqb b newline) text, ap length c.without_end.ensures.0)))
