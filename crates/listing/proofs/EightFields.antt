-- Rules about the lines of the printed list, as theorems over its definition: eight fields with one space between (Listing 10), a newline at the end (Listing 19),
-- one line for each input line, counted from 1 (Listing 12).
-- Assumes nothing.
use mathlib.Core.Path.{◌≡◌, refl, ap, ap₂, sym, ◌∙◌}
use mathlib.Core.Bool.{Bool, true, false, cond}
use mathlib.Core.List.{List, [], ◌∷◌, ◌++◌, map}
use mathlib.Core.Option.{Option, none, some}
use Prim.Native.Nat.{ℕ, suc, ◌≤◌, ◌<◌}
use lib.Dec.{lit<}
use lib.ListN.{length, length-map}
use borrow.Author.Rules.{rules}
use borrow.Author.Tests.{le-ltb}
use Rattle.common.specs.Lists.{from}
use Rattle.ownership.specs.Calls.{Call, making, blocking, unblocking, opening, closing, tracing, arming, disarming, opening_all, booking, judging, folding, CallResult, After}
use Rattle.text.specs.Text.{newline, space}
use Rattle.text.specs.Lines.{lines, cut, fields}
use Rattle.text.specs.Row.{Field, nothing, shows, letter, path, field_bytes, Row, in_order, spaced, ended, row_text, rows_text}
use Rattle.input_line.specs.Line.{asks}
use Rattle.printed_line.specs.PrintedLine.{call_row, unreadable, traced_ports, row_for, state_after}
use Rattle.listing.specs.Listing.{rows, header_words, header, input_limit, listing}
use Rattle.text.specs.Above.{Above, AllAbove}
use Rattle.text.proofs.Separated.{fields_spaced, above_decimal, above_path, ended_line}

-- Every field of a printed line is a dash, a number, a call letter or the ports of a path, none of which has a byte up to the space;
a_dash : Above space (field_bytes nothing)
unfolding field_bytes Above
a_dash = (lit< tt, tt)

a_number : (n : ℕ) → Above space (field_bytes (shows n))
unfolding field_bytes
a_number n = above_decimal n

a_letter : (x : ℕ) → space < x → Above space (field_bytes (letter x))
unfolding field_bytes Above
a_letter x h = (h, tt)

a_path : (w : List ℕ) → Above space (field_bytes (path w))
unfolding field_bytes Above
a_path [] = (lit< tt, tt)
a_path (p ∷ w) = above_path (p ∷ w)

-- or a dash stands in its place.
or_dash : (b : Bool) (f : Field) → Above space (field_bytes f) → Above space (field_bytes (cond b f nothing))
or_dash true f p = p
or_dash false f p = a_dash

-- a printed line's eight fields, as bytes
abbrev pub eight : Row → List (List ℕ)
eight r = map field_bytes (in_order r)

above_eight : (n : ℕ) (a : Call) (x : CallResult) (way : ℕ → ℕ → List ℕ) → AllAbove space (eight (call_row n a x way))
unfolding AllAbove in_order call_row
above_eight n (making D) x way = (a_number _, (a_letter _ (lit< tt), (a_number _, (a_dash, (a_dash, (a_dash, (a_dash, (a_dash, tt))))))))
above_eight n (blocking m p) x way = (a_number _, (a_letter _ (lit< tt), (a_number _, (a_number _, (a_dash, (a_dash, (a_dash, (a_number _, tt))))))))
above_eight n (unblocking m p) x way = (a_number _, (a_letter _ (lit< tt), (a_number _, (a_number _, (a_dash, (a_dash, (a_dash, (a_number _, tt))))))))
above_eight n (opening s c t y v) x way = search (a_dash, a_number, a_letter, a_path, or_dash, rules)
above_eight n (closing s c) x way = (a_number _, (a_letter _ (lit< tt), (a_number _, (a_number _, (a_number _, (a_dash, (a_dash, (a_dash, tt))))))))
above_eight n (tracing s c buffer) x way = (a_number _, (a_dash, (a_number _, (a_dash, (a_dash, (a_dash, (a_dash, (a_dash, tt))))))))
above_eight n (arming m k) x way = (a_number _, (a_letter _ (lit< tt), (a_number _, (a_number _, (a_number _, (a_dash, (a_dash, (a_dash, tt))))))))
above_eight n (disarming m k) x way = (a_number _, (a_letter _ (lit< tt), (a_number _, (a_number _, (a_number _, (a_dash, (a_dash, (a_dash, tt))))))))
above_eight n (opening_all sends) x way = (a_number _, (a_dash, (a_number _, (a_dash, (a_dash, (a_dash, (a_dash, (a_dash, tt))))))))
above_eight n (booking ports index) x way = (a_number _, (a_dash, (a_number _, (a_dash, (a_dash, (a_dash, (a_dash, (a_dash, tt))))))))
above_eight n (judging ports index circuits hops) x way = (a_number _, (a_dash, (a_number _, (a_dash, (a_dash, (a_dash, (a_dash, (a_dash, tt))))))))
above_eight n (folding mask) x way = (a_number _, (a_letter _ (lit< tt), (a_number _, (a_dash, (a_dash, (a_dash, (a_dash, (a_dash, tt))))))))

above_unreadable : (n : ℕ) → AllAbove space (eight (unreadable n))
unfolding AllAbove in_order unreadable
above_unreadable n = (a_number _, (a_dash, (a_number _, (a_dash, (a_dash, (a_dash, (a_dash, (a_dash, tt))))))))

-- Listing 10: cut at every space, a printed line is its eight fields.
row_fields : (r : Row) → AllAbove space (eight r) → fields (spaced (eight r)) ≡ eight r
unfolding in_order
row_fields r p = fields_spaced _ _ p

-- a row has eight fields
pub eight_long : (r : Row) → length (eight r) ≡ 8
unfolding in_order
eight_long r = refl

-- Listing 19: its text is its eight fields with one space between, and a newline.
pub row_ends : (r : Row) → row_text r ≡ spaced (eight r) ++ newline ∷ []
unfolding row_text ended
row_ends r = refl

-- the header is a line of eight words
above_header : AllAbove space header_words
unfolding AllAbove Above
above_header = search rules

-- the line of every call shows its number and the call's answer
pub line_shown : (n : ℕ) (a : Call) (x : CallResult) (way : ℕ → ℕ → List ℕ)
    → ((call_row n a x way).line ≡ shows n) × ((call_row n a x way).answer ≡ shows x.number)
unfolding call_row
line_shown n (making D) x way = (refl, refl)
line_shown n (blocking m p) x way = (refl, refl)
line_shown n (unblocking m p) x way = (refl, refl)
line_shown n (opening s c t y v) x way = (refl, refl)
line_shown n (closing s c) x way = (refl, refl)
line_shown n (tracing s c buffer) x way = (refl, refl)
line_shown n (arming m k) x way = (refl, refl)
line_shown n (disarming m k) x way = (refl, refl)
line_shown n (opening_all sends) x way = (refl, refl)
line_shown n (booking ports index) x way = (refl, refl)
line_shown n (judging ports index circuits hops) x way = (refl, refl)
line_shown n (folding mask) x way = (refl, refl)

module _ {S : Type 0} (makes : S → Call → After S) where
  above_row : (s : S) (n : ℕ) (a : Option Call) → AllAbove space (eight (row_for makes s n a))
  unfolding row_for
  above_row s n none = above_unreadable n
  above_row s n (some a) = above_eight n a (makes s a).result (traced_ports makes (makes s a).state)

  -- Every printed line has eight fields with one space between: cut at the newlines and then at the spaces, the printed lines are the eight fields of
  -- each row, no more and no fewer. (That each ends in a newline is `row_ends`.)
  pub eight_fields : (s : S) (n : ℕ) (ls : List (List ℕ)) → map fields (lines (rows_text (rows makes s n ls))) ≡ map eight (rows makes s n ls)
  unfolding rows rows_text row_text
  eight_fields s n [] = unfold lines cut in refl
  eight_fields s n (l ∷ ls) =
      let r = row_for makes s n (asks l) in
      let p = above_row s n (asks l) in
      ap (map fields) (ended_line (eight r) (rows_text (rows makes (state_after makes s (asks l)) (suc n) ls)) p)
      ∙ ap₂ ◌∷◌ (row_fields r p) (eight_fields (state_after makes s (asks l)) (suc n) ls)

  -- Listing 10: one line for each input line
  pub one_line_each : (s : S) (n : ℕ) (ls : List (List ℕ)) → length (rows makes s n ls) ≡ length ls
  unfolding rows
  one_line_each s n [] = refl
  one_line_each s n (l ∷ ls) = ap suc (one_line_each (state_after makes s (asks l)) (suc n) ls)

  -- Listing 12: counted from 1
  pub counts_lines : (s : S) (n : ℕ) (ls : List (List ℕ)) → map (λ (r : Row). r.line) (rows makes s n ls) ≡ map shows (from n (length ls))
  unfolding rows from
  counts_lines s n [] = refl
  counts_lines s n (l ∷ ls) = ap₂ ◌∷◌ (line_is_lem (asks l)) (counts_lines (state_after makes s (asks l)) (suc n) ls)
    where
      line_is_lem : (a : Option Call) → (row_for makes s n a).line ≡ shows n
      line_is_lem none = unfold row_for unreadable in refl
      line_is_lem (some a) = unfold row_for in (line_shown n a _ _).0

  -- the lines of the whole list count from 1
  pub counts_from_one : (s : S) (input : List ℕ)
      → map (λ (r : Row). r.line) (rows makes s 1 (lines input)) ≡ map shows (from 1 (length (lines input)))
  counts_from_one s input = counts_lines s 1 (lines input)

  -- The whole text of an input that is not too long: the header's eight words, and behind them the eight fields of each row.
  pub whole_list : (s : S) (input : List ℕ) → length input ≤ input_limit
      → map fields (lines (listing makes s input)) ≡ header_words ∷ map eight (rows makes s 1 (lines input))
  unfolding listing header
  whole_list s input h =
      rw (le-ltb input_limit (length input) h)
      (ap (map fields) (ended_line header_words (rows_text (rows makes s 1 (lines input))) above_header)
      ∙ ap₂ ◌∷◌ (fields_spaced _ _ above_header) (eight_fields s 1 (lines input)))

  -- its lines: the header, and one for each input line
  pub lines_listed : (s : S) (input : List ℕ) → length input ≤ input_limit → length (lines (listing makes s input)) ≡ suc (length (lines input))
  lines_listed s input h =
      sym (length-map (lines (listing makes s input)) fields)
      ∙ ap length (whole_list s input h)
      ∙ ap suc (length-map (rows makes s 1 (lines input)) eight ∙ one_line_each s 1 (lines input))
