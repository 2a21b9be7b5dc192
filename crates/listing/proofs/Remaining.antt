-- The lines of an input one by one, and the list as it is written.
-- Assumes nothing.
use mathlib.Core.Path.{◌≡◌, refl, ap, sym, ◌∙◌}
use mathlib.Core.Logic.{◌≢◌}
use mathlib.Core.Bool.{Bool, true, false, cond}
use mathlib.Core.List.{List, [], ◌∷◌, ◌++◌}
use Prim.Native.Nat.{ℕ, zero, suc, ◌+◌, ◌-◌, ◌≤◌, ◌<◌}
use native.Mathlib.Nat.{zero-add}
use native.Mathlib.Numerals.{add-one}
use native.Mathlib.Omega.{arith}
use lib.Dec.{ltb}
use lib.ListN.{length, get_or, take, drop, length-drop, length-append, drop_of_length-le}
use lib.Seq.{sets-eq, drop-cons, get_or-drop}
use borrow.Author.Tests.{lt-ltb, le-ltb, eq-eqb, ne_eqb}
use Rattle.layout.specs.Layout.{wide_ports}
use Rattle.table.specs.View.{fresh}
use Rattle.table.specs.Encode.{encode_over}
use Rattle.text.specs.Text.{newline}
use Rattle.text.specs.Lines.{on_first, cut, lines}
use Rattle.input_line.specs.Line.{asks}
use Rattle.text.specs.Row.{row_text, rows_text}
use Rattle.printed_line.specs.PrintedLine.{row_for, state_after}
use Rattle.listing.specs.Listing.{rows, header, input_limit, too_long, listing, printed}
use Rattle.text.specs.Written.{Wrote}
use Rattle.listing.specs.Printed.{output_bytes, Filled, filled, lists}
use Rattle.listing.specs.declared.whole.TooShort.{TooShort}
use Rattle.std.specs.declared.result.Result.{Result}
use Rattle.std.specs.Prelude.{Ok, Err}
use Rattle.std.specs.Result.{result_unwrap_or}
use Rattle.listing.proofs.Fitting.{text_fits}
use Rattle.ownership.specs.OnTable.{table_step}

-- The printed lines from the k-th line on: that of this line, and those behind it.
pub rows_step : (b : List ℕ) (n : ℕ) (ls : List (List ℕ)) (k : ℕ) → k < length ls → rows_text (rows (table_step wide_ports) b n (drop k ls))
    ≡ row_text (row_for (table_step wide_ports) b n (asks (get_or ls k []))) ++ rows_text (rows (table_step wide_ports) (state_after (table_step wide_ports) b (asks (get_or ls k []))) (n + 1) (drop (k + 1) ls))
unfolding rows_text rows
rows_step b n ls k h = rw (add-one k, add-one n, drop-cons ls k [] h)

-- The first line of a text is what stands before its first newline, or all of it where it has none: the first m bytes, where m is the place of that newline,
-- or the text's length.
first_line : (xs : List ℕ) (m : ℕ) → 0 < length xs → m ≤ length xs → ((p : ℕ) → p < m → get_or xs p 0 ≢ newline) → (m < length xs → get_or xs m 0 ≡ newline)
    → (0 < length (lines xs)) × (get_or (lines xs) 0 [] ≡ take m xs)
unfolding lines cut on_first
first_line [] m s h none ends = absurd (omega arith)
first_line (x ∷ xs) zero s h none ends = rw (eq-eqb x newline (ends (omega arith))) (omega arith, refl)
first_line (x ∷ []) (suc zero) s h none ends = rw (ne_eqb x newline (none 0 (omega arith))) (omega arith, refl)
first_line (x ∷ []) (suc (suc m)) s h none ends = absurd (omega arith)
first_line (x ∷ y ∷ xs) (suc m) s h none ends =
    rw (ne_eqb x newline (none 0 (omega arith)))
    (go (cut newline [] (y ∷ xs)) (first_line (y ∷ xs) m (omega arith) (omega arith) (λ p l. none (suc p) (omega arith)) (λ l. ends (omega arith))))
  where
    go : (ls : List (List ℕ)) → (0 < length ls) × (get_or ls 0 [] ≡ take m (y ∷ xs)) → (0 < length (on_first x ls)) × (get_or (on_first x ls) 0 [] ≡ x ∷ take m (y ∷ xs))
    go [] e = absurd (omega (arith, e.0))
    go (l ∷ ls) e = (omega arith, ap (x ∷◌) e.1)

-- The printed line of the first line of an input from place i on is no longer than the printed lines of all that follows from there. That line ends at place j,
-- that of the first newline from i on, or the input's end.
pub line_fits_lem : (input : List ℕ) (i j : ℕ) → i < length input → i ≤ j → j ≤ length input → ((p : ℕ) → i ≤ p → p < j → get_or input p 0 ≢ newline)
    → (j < length input → get_or input j 0 ≡ newline) → (b : List ℕ) (n : ℕ)
    → length (row_text (row_for (table_step wide_ports) b n (asks (take (j - i) (drop i input))))) ≤ length (rows_text (rows (table_step wide_ports) b n (lines (drop i input))))
line_fits_lem input i j inside after within none ends b n =
    let l = length-drop i input in
    let f : (0 < length (lines (drop i input))) × (get_or (lines (drop i input)) 0 [] ≡ take (j - i) (drop i input)) =
    first_line (drop i input) (j - i) (omega arith) (omega arith) (λ p q e. none (i + p) (omega arith) (omega arith) (sym (get_or-drop i input p 0) ∙ e))
    (λ q. get_or-drop i input (j - i) 0 ∙ ap (λ m. get_or input m 0) (omega arith) ∙ ends (omega arith)) in
    let e = ap length (rows_step b n (lines (drop i input)) 0 f.0) in
    rw (← f.1) (omega (arith, e, length-append (row_text (row_for (table_step wide_ports) b n (asks (get_or (lines (drop i input)) 0 []))))))

-- behind the last line nothing is left
pub rows_end : (b : List ℕ) (n : ℕ) (ls : List (List ℕ)) (k : ℕ) → length ls ≤ k → rows_text (rows (table_step wide_ports) b n (drop k ls)) ≡ []
unfolding rows rows_text
rows_end b n ls k h = rw (drop_of_length-le ls {i = k} h)

-- an empty input has no line
pub rows_none : (b input : List ℕ) (n : ℕ) → length input ≡ 0 → rows_text (rows (table_step wide_ports) b n (lines input)) ≡ []
unfolding lines cut rows rows_text
rows_none b [] n h = refl
rows_none b (x ∷ input) n h = absurd (omega arith)

-- the text of an input that is too long, and of one that is listed
pub printed_long : (input : List ℕ) → input_limit < length input → too_long ≡ printed input
unfolding printed listing
printed_long input h = rw (lt-ltb input_limit (length input) h)

pub printed_rows : (input b : List ℕ) → length input ≤ input_limit → b ≡ encode_over wide_ports (fresh 1) → header ++ rows_text (rows (table_step wide_ports) b 1 (lines input)) ≡ printed input
unfolding printed listing
printed_rows input b h e = rw (e, le-ltb input_limit (length input) h)

-- the lines behind the header fit the output
pub rows_fit : (input b : List ℕ) → length input ≤ input_limit → b ≡ encode_over wide_ports (fresh 1) → length header + length (rows_text (rows (table_step wide_ports) b 1 (lines input))) ≤ output_bytes
rows_fit input b h e =
    let f = text_fits input in
    let l = ap length (printed_rows input b h e) in
    omega (arith, length-append header (rows_text (rows (table_step wide_ports) b 1 (lines input))))

-- an output that is too short stays as it is; one that is not holds the text, and its own bytes behind it
pub lists_short : (input out : List ℕ) → length out < output_bytes → record { short = true; written = 0; output = out } ≡ lists input out
unfolding lists
lists_short input out h = rw (lt-ltb (length out) output_bytes h)

pub lists_all : (input : List ℕ) {r : ℕ} {out text out' : List ℕ} → output_bytes ≤ length out → text ≡ printed input → Wrote out 0 text out' r
    → record { short = false; written = r; output = out' } ≡ lists input out
unfolding lists
lists_all input {r = r} {out = out} {text = text} {out' = out'} h e w = rw (le-ltb (length out) output_bytes h, ← e) (λ i. record { short = false; written = place i; output = bytes i })
  where
    place : r ≡ length text
    place = w.place ∙ zero-add (length text)

    bytes : out' ≡ text ++ drop (length text) out
    bytes =
        w.bytes ∙ sets-eq text out 0 (let f = text_fits input in let l = ap length e in omega arith)
        ∙ ap (λ n. text ++ drop n out) (zero-add (length text))

-- what was written is within the output
pub lists_within : (input out : List ℕ) → (lists input out).written ≤ length (lists input out).output
unfolding lists
lists_within input out = go (ltb (length out) output_bytes)
  where
    go : (b : Bool) → let r = cond {A = Filled} b (record { short = true; written = 0; output = out }) (record { short = false; written = length (printed input); output = printed input ++ drop (length (printed input)) out }) in
        r.written ≤ length r.output
    go true = omega arith
    go false = let e = length-append (printed input) (drop (length (printed input)) out) in omega arith

-- what a result says of how much was written, and of the output
pub written_is : (r : Result ℕ TooShort) (out : List ℕ) → result_unwrap_or r 0 ≡ (filled r out).written
written_is (Ok n) out = refl
written_is (Err e) out = refl

pub written_within : (input out out' : List ℕ) (r : Result ℕ TooShort) → filled r out' ≡ lists input out → length out' ≡ length out → result_unwrap_or r 0 ≤ length out
written_within input out out' r e l =
    let w = written_is r out' ∙ ap (λ (f : Filled). f.written) e in let o = output_is r out' ∙ ap (λ (f : Filled). length f.output) e in let h = lists_within input out in omega arith
  where
    output_is : (r : Result ℕ TooShort) (out' : List ℕ) → length out' ≡ length (filled r out').output
    output_is (Ok n) out' = refl
    output_is (Err e) out' = refl
