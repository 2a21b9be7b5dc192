-- From the fields of a printed line to the line as it is written.
-- Assumes nothing.
use mathlib.Core.Path.{◌≡◌, refl, ap, sym, ◌∙◌}
use mathlib.Core.List.{List, [], ◌∷◌, ◌++◌, append_assoc}
use mathlib.Core.Option.{Option, none}
use Prim.Native.Nat.{ℕ, ◌+◌}
use lib.ListN.{length, length-append}
use Rattle.layout.specs.Layout.{wide_ports}
use Rattle.ownership.specs.Calls.{Call}
use Rattle.ownership.specs.OnTable.{table_step}
use Rattle.text.specs.Text.{newline, decimal}
use Rattle.text.specs.Row.{Field, nothing, shows, Row as PrintedRow, row_text}
use Rattle.text.specs.Written.{Wrote, row_of, row_width}
use Rattle.text.specs.declared.row.Row.{Row}
use Rattle.text.proofs.Writing.{retext}
use Rattle.text.proofs.Rows.{behind_spaces, row_text_lem, row_length}
use Rattle.printed_line.specs.PrintedLine.{unreadable, row_for, state_after}
use Rattle.printed_line.specs.LineContracts.{Answered}
use Rattle.line_answer.specs.LineWritten.{WroteLine}

-- The line of what was carried out, of which it is known what it asks: how many bytes it takes, and that it was written.
module _ {b b' w : List ℕ} {n : ℕ} {a a' : Option Call} {r : Row} (e : a ≡ a') (x : Answered b n a w r b') where
  row_is : row_of w r ≡ row_for (table_step wide_ports) b n a'
  row_is = x.row ∙ ap (row_for (table_step wide_ports) b n) e

  pub line_width : row_width (row_of w r) ≡ length (row_text (row_for (table_step wide_ports) b n a'))
  line_width = sym (row_length (row_of w r)) ∙ ap (λ (q : PrintedRow). length (row_text q)) row_is

  pub line_written : {out out' : List ℕ} {i j : ℕ} → Wrote out i (row_text (row_of w r)) out' j → WroteLine b n a' out i b' out' j
  line_written t = record { text = retext (ap row_text row_is) t; table = x.table ∙ ap (state_after (table_step wide_ports) b) e }

-- The fields behind the number of a line that cannot be read, and their text, which is the same for each such line.
abbrev unread_fields : List Field
unread_fields = nothing ∷ shows 20 ∷ nothing ∷ nothing ∷ nothing ∷ nothing ∷ nothing ∷ []

abbrev pub unread_text : List ℕ
unread_text = behind_spaces unread_fields ++ newline ∷ []

-- That line is its number and this text.
pub unread_row : (n : ℕ) → decimal n ++ unread_text ≡ row_text (unreadable n)
unfolding unreadable
unread_row n = sym (append_assoc (decimal n) (behind_spaces unread_fields) (newline ∷ [])) ∙ row_text_lem n nothing 20 nothing nothing nothing nothing nothing

pub unread_width : (n : ℕ) → length (decimal n) + length unread_text ≡ length (row_text (unreadable n))
unread_width n = sym (length-append (decimal n) unread_text) ∙ ap length (unread_row n)

-- Where it was written, the input line was answered: the table stays.
pub unread_written : {b out out' : List ℕ} {n i j : ℕ} {a : Option Call} → none ≡ a → Wrote out i (row_text (unreadable n)) out' j → WroteLine b n a out i b out' j
unfolding row_for state_after
unread_written e t = rw (← e) (record { text = t; table = refl })
