-- From what a call answers to the fields of its printed line.
-- Assumes nothing.
use mathlib.Core.Path.{◌≡◌, ap, ◌∙◌}
use mathlib.Core.Logic.{◌≢◌}
use mathlib.Core.List.{List, [], ◌∷◌}
use mathlib.Core.Option.{some}
use Prim.Native.Nat.{ℕ}
use lib.ListN.{take}
use borrow.Author.Tests.{ne_eqb}
use Rattle.layout.specs.Layout.{wide_ports}
use Rattle.ownership.specs.Calls.{Call, opening, tracing, CallResult, hops_of, receive_of, scouts_of, buffer_of, carries_scouts, After}
use Rattle.ownership.specs.OnTable.{done, table_step}
use Rattle.text.specs.Row.{Field, nothing, shows, path, Row as PrintedRow, row}
use Rattle.text.specs.Written.{row_of}
use Rattle.text.specs.declared.row.Row.{Row}
use Rattle.input_line.specs.Line.{letter_s}
use Rattle.printed_line.specs.PrintedLine.{shows_if, call_row, zero_buffer, traced_ports, row_for, state_after}
use Rattle.printed_line.specs.LineContracts.{Answered}

-- a call on a table gave an answer, and the fields are those of that answer
pub answered : {b b' w : List ℕ} {a : Call} {x : CallResult} {n : ℕ} {r : Row} → record { state = b'; result = x } ≡ table_step wide_ports b a
    → row_of w r ≡ call_row n a x (traced_ports (table_step wide_ports) b') → Answered b n (some a) w r b'
unfolding row_for state_after
answered {a = a} {n = n} e same =
    record {
      row = same ∙ ap (λ (d : After (List ℕ)). call_row n a d.result (traced_ports (table_step wide_ports) d.state)) e;
      table = ap (λ (d : After (List ℕ)). d.state) e;
    }

-- a printed line that shows scouts, or a receive channel, scouts and ports, in the place of what it showed there
abbrev pub with_scouts : Field → PrintedRow → PrintedRow
with_scouts g q = record { line = q.line; call = q.call; answer = q.answer; node = q.node; channel = q.channel; receive = q.receive; scouts = g; ports = q.ports }

abbrev pub with_path : Field → Field → Field → PrintedRow → PrintedRow
with_path f g h q = record { line = q.line; call = q.call; answer = q.answer; node = q.node; channel = q.channel; receive = f; scouts = g; ports = h }

-- the line of an open, by its answer
module _ (n : ℕ) (way : ℕ → ℕ → List ℕ) (s c t y v : ℕ) (x : CallResult) {scouts : Field} (shown : scouts ≡ shows_if (carries_scouts x.number) (shows (scouts_of x))) where
  pub refused_row : x.number ≢ 0 → row n letter_s x.number (shows s) (shows c) nothing scouts nothing ≡ call_row n (opening s c t y v) x way
  unfolding call_row
  refused_row p = rw (ne_eqb x.number 0 p, shown)

  pub acknowledged_row : {w : List ℕ} → x.number ≡ 0 → w ≡ way s c
      → row n letter_s x.number (shows s) (shows c) (shows (receive_of x)) scouts (path w) ≡ call_row n (opening s c t y v) x way
  unfolding call_row
  acknowledged_row p q = rw (shown, p, q)

-- the ports that a trace wrote into the buffer it was lent
pub ports_are : (s c : ℕ) {r h : ℕ} {b lent buffer : List ℕ} → lent ≡ zero_buffer
    → done b r (h ∷ []) (buffer ∷ []) ≡ table_step wide_ports b (tracing s c lent) → take h buffer ≡ traced_ports (table_step wide_ports) b s c
unfolding traced_ports
ports_are s c {b = b} l t = ap (λ (d : After (List ℕ)). take (hops_of d.result) (buffer_of d.result)) (t ∙ ap (λ (m : List ℕ). table_step wide_ports b (tracing s c m)) l)
