-- The text of every input fits the output that the listing function asks for.
-- Assumes nothing.
use mathlib.Core.Path.{◌≡◌, refl, sym, ◌∙◌, subst}
use mathlib.Core.Logic.{inr, ⊎_elim}
use mathlib.Core.Bool.{Bool, true, false, cond}
use mathlib.Core.List.{List, [], ◌∷◌, ◌++◌}
use mathlib.Core.Option.{Option, none, some}
use Prim.Native.Nat.{ℕ, zero, suc, ◌+◌, ◌*◌, ◌≤◌, ◌<◌}
use native.Mathlib.Omega.{arith}
use lib.Dec.{eqb, ltb, leb, lit≤, lit<}
use lib.ListN.{length, get_or, length-append}
use borrow.Author.Tests.{eqb-true, ltb-false}
use Rattle.common.proofs.Tests.{same?, below_or}
use Rattle.layout.specs.Layout.{wide_ports}
use Rattle.paths.specs.Network.{Path}
use Rattle.table.specs.Encode.{encode_over}
use Rattle.table.specs.View.{fresh}
use Rattle.ownership.specs.Calls.{Call, making, blocking, unblocking, opening, closing, tracing, arming, disarming, opening_all, booking, judging, folding, receive_of, scouts_of, carries_scouts, After}
use Rattle.ownership.specs.OnTable.{stopped_at, table_step}
use Rattle.ownership.proofs.Steps.{table_step_lem}
use Rattle.ownership.proofs.OnSound.{open_answers}
use Rattle.text.specs.Text.{newline, decimal}
use Rattle.text.specs.Lines.{on_first, cut, lines, fields}
use Rattle.input_line.specs.Line.{numbers, numbers_of, by_letter, with_numbers, of_fields, longest, asks}
use Rattle.text.specs.Row.{Field, nothing, shows, path, field_bytes, spaced, ended, row_text, rows_text}
use Rattle.printed_line.specs.PrintedLine.{is_accepted, call_row, unreadable, traced_ports, row_for, state_after}
use Rattle.listing.specs.Listing.{rows, header, input_limit, too_long, listing, printed}
use Rattle.listing.specs.Printed.{output_bytes}
use Rattle.text.specs.Written.{width}
use Rattle.text.proofs.Digits.{decimal_length}
use Rattle.text.proofs.Fields.{five_digits, path_length}
use Rattle.text.proofs.Rows.{row_length}
use Rattle.text.proofs.Reading.{IfRead}
use Rattle.input_line.proofs.Asking.{numbers_hold, each_letter, short_line}
use Rattle.listing.proofs.Refusals.{two_digits}
use Rattle.listing.proofs.TracedPath.{traced_path}

-- a field that is shown in one case only
if_fits : (k : ℕ) (b : Bool) (f : Field) → 1 ≤ k → (b ≡ true → width f ≤ k) → width (cond b f nothing) ≤ k
unfolding field_bytes
if_fits k true f h l = l refl
if_fits k false f h l = h

-- what is read in one case only
if_read : {A : Type 0} (P : A → Type 0) (b : Bool) (o : Option A) → IfRead P o → IfRead P (cond b o none)
if_read P true o h = h
if_read P false o h = tt

-- the numbers of a line are at most 65,535
abbrev Small : List ℕ → Type 0
Small ns = (i : ℕ) → get_or ns i 0 < 65536

in_front_lem : (n : ℕ) (ns : List ℕ) → n < 65536 → Small ns → Small (n ∷ ns)
in_front_lem n ns h l zero = h
in_front_lem n ns h l (suc i) = l i

numbers_small : (fs : List (List ℕ)) → IfRead Small (numbers fs)
numbers_small = numbers_hold (λ fs. Small) (λ i. omega arith) (λ f fs. in_front_lem)

-- the numbers of a call that its line shows as given
abbrev ArgumentsFit : Call → Type 0
ArgumentsFit (making D) = Unit
ArgumentsFit (blocking n p) = (n < 65536) × (p < 65536)
ArgumentsFit (unblocking n p) = (n < 65536) × (p < 65536)
ArgumentsFit (opening s c t y v) = (s < 65536) × (c < 65536)
ArgumentsFit (closing s c) = (s < 65536) × (c < 65536)
ArgumentsFit (tracing s c buffer) = Unit
ArgumentsFit (arming n k) = (n < 65536) × (k < 65536)
ArgumentsFit (disarming n k) = (n < 65536) × (k < 65536)
ArgumentsFit (opening_all sends) = Unit
ArgumentsFit (booking ports index) = Unit
ArgumentsFit (judging ports index circuits hops) = Unit
ArgumentsFit (folding mask) = Unit

given_letter : (x : ℕ) (ns : List ℕ) → Small ns → IfRead ArgumentsFit (by_letter x ns)
unfolding by_letter
given_letter x ns h =
    if_read ArgumentsFit (eqb (length ns) (numbers_of x)) _
    (each_letter (λ n f. IfRead ArgumentsFit (f (get_or ns 0 0) (get_or ns 1 0) (get_or ns 2 0) (get_or ns 3 0) (get_or ns 4 0)))
    tt (h 0, h 1) (h 0, h 1) (h 0, h 1) (h 0, h 1) (h 0, h 1) (h 0, h 1) tt tt x)

arguments_fit : (l : List ℕ) → IfRead ArgumentsFit (asks l)
unfolding asks
arguments_fit l = if_read ArgumentsFit (leb (length l) longest) (of_fields (fields l)) (of (fields l))
  where
    after_letter : (x : ℕ) (m : Option (List ℕ)) → IfRead Small m → IfRead ArgumentsFit (with_numbers x m)
    after_letter x none h = unfold with_numbers in tt
    after_letter x (some ns) h = unfold with_numbers in given_letter x ns h

    of : (fs : List (List ℕ)) → IfRead ArgumentsFit (of_fields fs)
    of [] = unfold of_fields in tt
    of ([] ∷ fs) = unfold of_fields in tt
    of ((x ∷ []) ∷ fs) = unfold of_fields in after_letter x (numbers fs) (numbers_small fs)
    of ((x ∷ y ∷ xs) ∷ fs) = unfold of_fields in tt

-- A path has at most nine ports, and each has one character.
path_width : (w : Path) → length w ≤ 9 → width (path w) ≤ 9
unfolding field_bytes
path_width [] h = lit≤ tt
path_width (p ∷ w) h = omega (arith, path_length (p ∷ w))

traced_width : (b : List ℕ) (s c : ℕ) → width (path (traced_ports (table_step wide_ports) b s c)) ≤ 9
traced_width b s c = traced_path wide_ports b s c (λ w. width (path w) ≤ 9) (path_width [] (lit≤ tt)) (λ w long most hops there. path_width w hops)

-- the receive channel and the scouts of an open
module _ (b : List ℕ) (s c t y v : ℕ) where
  abbrev opens : Call
  opens = opening s c t y v

  open_scouts : scouts_of (table_step wide_ports b opens).result ≤ 35099560
  open_scouts =
      ⊎_elim (λ e. (open_answers wide_ports (inr refl) b s c t y v e).bounded_folded)
      (λ e. subst (λ (x : After (List ℕ)). scouts_of x.result ≤ 35099560) (sym ((table_step_lem wide_ports b opens).stopped e)) (lit≤ tt))
      (same? (stopped_at wide_ports b opens) 0)

  open_receive : (table_step wide_ports b opens).result.number ≡ 0 → receive_of (table_step wide_ports b opens).result < 8
  open_receive z =
      ⊎_elim (λ e. ((open_answers wide_ports (inr refl) b s c t y v e).lowest z).small) (λ e. absurd (e ((table_step_lem wide_ports b opens).passed z))) (same? (stopped_at wide_ports b opens) 0)

-- The line of each call: at most 44 bytes, which those of an open with 8 digits of scouts and nine ports are.
module _ (b : List ℕ) (n : ℕ) (small : n < 65536) where
  answer_digits : (a : Call) → length (decimal (table_step wide_ports b a).result.number) ≤ 2
  answer_digits a = decimal_length 1 _ (let l = two_digits b a in omega arith)

  call_length : (a : Call) → ArgumentsFit a → length (row_text (row_for (table_step wide_ports) b n (some a))) ≤ 44
  unfolding row_for call_row field_bytes
  call_length (making D) g = rw row_length (omega (arith, five_digits n small, answer_digits (making D)))
  call_length (blocking m p) g =
      rw row_length (omega (arith, five_digits n small, answer_digits (blocking m p), five_digits m g.0, five_digits p g.1))
  call_length (unblocking m p) g =
      rw row_length (omega (arith, five_digits n small, answer_digits (unblocking m p), five_digits m g.0, five_digits p g.1))
  call_length (opening s c t y v) g =
      let x = (table_step wide_ports b (opening s c t y v)).result in
      let receive =
      if_fits 1 (is_accepted x) (shows (receive_of x)) (lit≤ tt)
      (λ e. decimal_length 0 (receive_of x) (let l = open_receive b s c t y v (eqb-true _ 0 e) in omega arith)) in
      let scouts =
      if_fits 8 (carries_scouts x.number) (shows (scouts_of x)) (lit≤ tt)
      (λ e. decimal_length 7 (scouts_of x) (let l = open_scouts b s c t y v in omega arith)) in
      let ports =
      if_fits 9 (is_accepted x) (path (traced_ports (table_step wide_ports) (table_step wide_ports b (opening s c t y v)).state s c)) (lit≤ tt)
      (λ e. traced_width (table_step wide_ports b (opening s c t y v)).state s c) in
      rw row_length
      (omega (arith, five_digits n small, answer_digits (opening s c t y v), five_digits s g.0, five_digits c g.1, receive, scouts, ports))
  call_length (closing s c) g =
      rw row_length (omega (arith, five_digits n small, answer_digits (closing s c), five_digits s g.0, five_digits c g.1))
  call_length (tracing s c buffer) g = rw row_length (omega (arith, five_digits n small, answer_digits (tracing s c buffer)))
  call_length (arming m k) g =
      rw row_length (omega (arith, five_digits n small, answer_digits (arming m k), five_digits m g.0, five_digits k g.1))
  call_length (disarming m k) g =
      rw row_length (omega (arith, five_digits n small, answer_digits (disarming m k), five_digits m g.0, five_digits k g.1))
  call_length (opening_all sends) g = rw row_length (omega (arith, five_digits n small, answer_digits (opening_all sends)))
  call_length (booking ports index) g = rw row_length (omega (arith, five_digits n small, answer_digits (booking ports index)))
  call_length (judging ports index circuits hops) g = rw row_length (omega (arith, five_digits n small, answer_digits (judging ports index circuits hops)))
  call_length (folding mask) g = rw row_length (omega (arith, five_digits n small, answer_digits (folding mask)))

  unreadable_length : length (row_text (unreadable n)) ≤ 24
  unfolding unreadable field_bytes
  unreadable_length = rw row_length (omega (arith, five_digits n small, decimal_length 1 20 (lit< tt)))

  -- 24 bytes for each byte of a line and its newline: a line with a call has two bytes at least
  line_length_lem : (l : List ℕ) → length (row_text (row_for (table_step wide_ports) b n (asks l))) ≤ 24 * suc (length l)
  line_length_lem l = go (asks l) refl (arguments_fit l)
    where
      go : (o : Option Call) → asks l ≡ o → IfRead ArgumentsFit o → length (row_text (row_for (table_step wide_ports) b n o)) ≤ 24 * suc (length l)
      go none e g = unfold row_for in omega (arith, unreadable_length)
      go (some a) e g =
          ⊎_elim (λ h. absurd (let z : ◌≡◌ {A = Option Call} none (some a) = sym (short_line l h) ∙ e in let y : ◌≡◌ {A = ℕ} 0 1 = cc in omega arith))
          (λ h. omega (arith, call_length a g)) (below_or 2 (length l))

-- what the lines of an input take: its bytes, and one more where the last newline is absent
abbrev total_length : List (List ℕ) → ℕ
total_length [] = 0
total_length (l ∷ ls) = suc (length l) + total_length ls

taken_lines : (input : List ℕ) → total_length (lines input) ≤ suc (length input)
unfolding lines cut
taken_lines [] = omega arith
taken_lines (x ∷ xs) = go (eqb x newline) (cut newline [] xs) (taken_lines xs)
  where
    go : (b : Bool) (ls : List (List ℕ)) → total_length ls ≤ suc (length xs) → total_length (cond b ([] ∷ ls) (on_first x ls)) ≤ suc (suc (length xs))
    go true ls h = omega arith
    go false [] h = unfold on_first in omega arith
    go false (l ∷ ls) h = unfold on_first in omega arith

rows_length : (ls : List (List ℕ)) (b : List ℕ) (n : ℕ) → n + total_length ls ≤ 65536 → length (rows_text (rows (table_step wide_ports) b n ls)) ≤ 24 * total_length ls
unfolding rows rows_text
rows_length [] b n h = omega arith
rows_length (l ∷ ls) b n h =
    let after = state_after (table_step wide_ports) b (asks l) in
    let joined = length-append (row_text (row_for (table_step wide_ports) b n (asks l))) (rows_text (rows (table_step wide_ports) after (suc n) ls)) in
    omega (arith, joined, line_length_lem b n (omega arith) l, rows_length ls after (suc n) (omega arith))

-- The printed text of every input fits an output of the size that the listing function asks for.
pub text_fits : (input : List ℕ) → length (printed input) ≤ output_bytes
unfolding printed listing
text_fits input = go (ltb input_limit (length input)) refl
  where
    go : (x : Bool) → ltb input_limit (length input) ≡ x
        → length (cond x too_long (header ++ rows_text (rows (table_step wide_ports) (encode_over wide_ports (fresh 1)) 1 (lines input)))) ≤ output_bytes
    go true e = unfold too_long ended spaced in lit≤ tt
    go false e =
        let long : length header ≡ 51 = unfold header ended spaced in refl in
        let few = ltb-false input_limit (length input) e in
        let most = taken_lines input in
        omega (arith, length-append header (rows_text (rows (table_step wide_ports) (encode_over wide_ports (fresh 1)) 1 (lines input))), rows_length (lines input) (encode_over wide_ports (fresh 1)) 1 (omega arith))
