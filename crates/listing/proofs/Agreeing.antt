-- The printed list is what the ownership history says.
-- Assumes nothing.
use mathlib.Core.Logic.{inr}
use mathlib.Core.Path.{◌≡◌, refl, ap, ap₂, ◌∙◌, fun_ext, subst}
use mathlib.Core.Bool.{cond}
use mathlib.Core.List.{List, [], ◌∷◌, ◌++◌}
use mathlib.Core.Option.{Option, none, some}
use Prim.Native.Nat.{ℕ, suc}
use lib.Dec.{ltb, lit≤, lit<}
use lib.ListN.{length, take}
use Rattle.layout.specs.Layout.{wide_ports}
use Rattle.layout.specs.Resources.{Width}
use Rattle.table.specs.View.{fresh}
use Rattle.table.specs.Encode.{encode_over}
use Rattle.ownership.specs.Calls.{Call, making, blocking, unblocking, opening, closing, tracing, arming, disarming, opening_all, booking, judging, folding, OfKind, CallResult, hops_of, buffer_of}
use Rattle.ownership.specs.OnTable.{table_step}
use Rattle.ownership.specs.History.{History, history_step, new_history}
use Rattle.ownership.specs.Invariant.{Represents}
use Rattle.ownership.specs.HistoryView.{bytes_of}
use Rattle.ownership.proofs.Agreement.{bytes_represent, represents_step}
use Rattle.ownership.proofs.ValidAfter.{made_valid}
use Rattle.ownership.proofs.Applied.{made_view}
use Rattle.listing.specs.Examples.{input, output, printed_example, folding_input, folding_output, folding_example}
use Rattle.text.specs.Lines.{lines}
use Rattle.text.proofs.Reading.{IfRead}
use Rattle.input_line.specs.Line.{asks}
use Rattle.text.specs.Row.{Row, rows_text}
use Rattle.printed_line.specs.PrintedLine.{call_row, traced_ports, row_for, state_after, zero_buffer}
use Rattle.listing.specs.Listing.{rows, header, input_limit, too_long, listing, printed, recorded}

-- The list says what the ownership history says: on a table that represents a history, the printed lines are those of the history, if each call that a line asks for is one on
-- such a table.
module _ (q : ℕ) (width : Width q) where
  traced_alike : (b : List ℕ) (h : History) → Represents q b h → (n c : ℕ) → traced_ports (table_step q) b n c ≡ traced_ports history_step h n c
  unfolding traced_ports
  traced_alike b h k n c = ap (λ (g : CallResult). take (hops_of g) (buffer_of g)) (represents_step q width b h k (tracing n c zero_buffer) tt).result

  pub row_alike : (b : List ℕ) (h : History) → Represents q b h → (n : ℕ) (a : Option Call) → IfRead (OfKind q) a → row_for (table_step q) b n a ≡ row_for history_step h n a
  unfolding row_for
  row_alike b h k n none kind = refl
  row_alike b h k n (some a) kind =
      let s = represents_step q width b h k a kind in
      ap₂ (λ (x : CallResult) (w : ℕ → ℕ → List ℕ). call_row n a x w) s.result
      (fun_ext (λ m. fun_ext (λ c. traced_alike (table_step q b a).state (history_step h a).state s.represented m c)))

  pub represents_after : (b : List ℕ) (h : History) → Represents q b h → (a : Option Call) → IfRead (OfKind q) a
      → Represents q (state_after (table_step q) b a) (state_after history_step h a)
  unfolding state_after
  represents_after b h k none kind = k
  represents_after b h k (some a) kind = (represents_step q width b h k a kind).represented

  -- a made table of dimension 1
  pub start_represents : Represents q (encode_over q (fresh 1)) (new_history 1)
  unfolding bytes_of
  start_represents =
      subst (λ v. Represents q (encode_over q v) (new_history 1)) (made_view 1)
      (bytes_represent q width (new_history 1) (made_valid 1 (lit≤ tt) (lit≤ tt)) (record { small = lit< tt; plain = λ e. refl }))

-- every call is one on a wide table
wide_kind : (a : Option Call) → IfRead (OfKind wide_ports) a
wide_kind none = tt
wide_kind (some (making D)) = tt
wide_kind (some (blocking n p)) = tt
wide_kind (some (unblocking n p)) = tt
wide_kind (some (opening s c t y v)) = tt
wide_kind (some (closing s c)) = tt
wide_kind (some (tracing s c buffer)) = tt
wide_kind (some (arming n k)) = tt
wide_kind (some (disarming n k)) = tt
wide_kind (some (opening_all sends)) = tt
wide_kind (some (booking ports index)) = tt
wide_kind (some (judging ports index circuits hops)) = tt
wide_kind (some (folding mask)) = refl

rows_alike : (ls : List (List ℕ)) (b : List ℕ) (h : History) (n : ℕ) → Represents wide_ports b h → rows (table_step wide_ports) b n ls ≡ rows history_step h n ls
unfolding rows
rows_alike [] b h n k = refl
rows_alike (l ∷ ls) b h n k =
    let kind = wide_kind (asks l) in
    ap₂ ◌∷◌ (row_alike wide_ports (inr refl) b h k n (asks l) kind)
    (rows_alike ls (state_after (table_step wide_ports) b (asks l)) (state_after history_step h (asks l)) (suc n) (represents_after wide_ports (inr refl) b h k (asks l) kind))

pub list_alike : (b : List ℕ) (h : History) (input : List ℕ) → Represents wide_ports b h → listing (table_step wide_ports) b input ≡ listing history_step h input
unfolding listing
list_alike b h input k =
    ap (λ (rs : List Row). cond (ltb input_limit (length input)) too_long (header ++ rows_text rs)) (rows_alike (lines input) b h 1 k)

-- Promises 18, History 11: what is printed is what the ownership history says.
pub prints_history : (input : List ℕ) → printed input ≡ recorded input
unfolding printed recorded
prints_history input = list_alike (encode_over wide_ports (fresh 1)) (new_history 1) input (start_represents wide_ports (inr refl))

-- So Examples 10 and Examples 30 are what the function writes.
pub example_printed : printed input ≡ output
example_printed = prints_history input ∙ printed_example

pub folding_printed : printed folding_input ≡ folding_output
folding_printed = prints_history folding_input ∙ folding_example
