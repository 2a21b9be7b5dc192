-- Listing 18: an input without `M` prints what the calls on a narrow table would.
-- Assumes nothing.
use mathlib.Core.Logic.{◌≢◌, inl}
use mathlib.Core.Path.{◌≡◌, refl, ap, ap₂, sym, ◌∙◌}
use mathlib.Core.Bool.{Bool, true, false, cond}
use mathlib.Core.List.Memᴰ
use mathlib.Core.List.{List, [], ◌∷◌, ◌++◌, map}
use mathlib.Core.Option.{Option, none, some}
use Prim.Native.Nat.{ℕ, suc, ◌<◌, ◌≤◌}
use native.Mathlib.Omega.{arith}
use lib.Dec.{ltb}
use lib.ListN.{length, get_or}
use borrow.Author.Tests.{lt-ltb, ltb-true}
use Rattle.common.specs.Lists.{◌∈◌}
use Rattle.cube.specs.Cube.{port_count, largest_dimension}
use Rattle.cube.specs.Axes.{present}
use Rattle.cube.proofs.PartnerPorts.{unfolded_present}
use Rattle.layout.proofs.Folds.{fold_none}
use Rattle.paths.specs.Network.{Path}
use Rattle.layout.specs.Layout.{length_of, dimension_at}
use Rattle.table.specs.View.{fresh, view, shape_of}
use Rattle.table.specs.Encode.{encode}
use Rattle.answers.proofs.AfterSend.{PortsThere}
use Rattle.ownership.specs.Calls.{Call, making, blocking, unblocking, opening, closing, tracing, arming, disarming, opening_all, booking, judging, folding, OfKind, CallResult, carries_scouts, receive_of, scouts_of}
use Rattle.ownership.specs.OnTable.{table_step}
use Rattle.ownership.specs.History.{History, history_step, new_history}
use Rattle.ownership.specs.Invariant.{Represents}
use Rattle.text.specs.Text.{decimal}
use Rattle.text.specs.Lines.{lines}
use Rattle.text.specs.Row.{Field, nothing, shows, path, port_character, path_characters, field_bytes, Row, in_order, ended, row_text, rows_text}
use Rattle.text.proofs.Digits.{decimal_short}
use Rattle.text.proofs.Reading.{IfRead}
use Rattle.input_line.specs.Line.{letter_m, asks}
use Rattle.input_line.proofs.Letters.{only_m_folds}
use Rattle.printed_line.specs.PrintedLine.{is_accepted, call_row, unreadable, traced_ports, row_for, state_after}
use Rattle.listing.specs.Listing.{rows, header, input_limit, too_long, listing, printed, recorded}
use Rattle.listing.specs.Before.{path_numbers, field_before, rows_before, printed_before, WithoutFolding}
use Rattle.listing.proofs.TracedPath.{traced_path}
use Rattle.listing.proofs.Agreeing.{row_alike, represents_after, start_represents, prints_history}

-- the ports of a path have one digit
abbrev Digits : Path → Type 0
Digits w = (p : ℕ) → p ∈ w → p < 10

port_same : (p : ℕ) → p < 10 → decimal p ≡ port_character p ∷ []
unfolding port_character
port_same p h = rw (lt-ltb p 10 h) (decimal_short p h)

path_same : (w : Path) → Digits w → path_numbers w ≡ path_characters w
unfolding path_numbers path_characters
path_same [] d = refl
path_same (p ∷ w) d = ap₂ ◌++◌ (port_same p (d p (Memᴰ.head refl))) (path_same w (λ r m. d r (Memᴰ.tail m)))

field_same : (w : Path) → Digits w → field_before (path w) ≡ field_bytes (path w)
unfolding field_before field_bytes
field_same [] d = refl
field_same (p ∷ w) d = path_same (p ∷ w) d

-- a field that is shown in one case only
if_same : (b : Bool) (f : Field) → field_before f ≡ field_bytes f → field_before (cond b f nothing) ≡ field_bytes (cond b f nothing)
unfolding field_before field_bytes
if_same true f e = e
if_same false f e = refl

number_same : (n : ℕ) → field_before (shows n) ≡ field_bytes (shows n)
unfolding field_before field_bytes
number_same n = refl

abbrev Same : Row → Type 0
Same r = map field_before (in_order r) ≡ map field_bytes (in_order r)

row_same : (n : ℕ) (a : Call) (x : CallResult) (way : ℕ → ℕ → List ℕ) → ((s c : ℕ) → Digits (way s c)) → Same (call_row n a x way)
unfolding call_row in_order field_before field_bytes
row_same n (making D) x way d = refl
row_same n (blocking m p) x way d = refl
row_same n (unblocking m p) x way d = refl
row_same n (opening s c t y v) x way d =
    let receive = if_same (is_accepted x) (shows (receive_of x)) (number_same (receive_of x)) in
    let scouts = if_same (carries_scouts x.number) (shows (scouts_of x)) (number_same (scouts_of x)) in
    let ports = if_same (is_accepted x) (path (way s c)) (field_same (way s c) (d s c)) in
    rw (receive, scouts, ports) refl
row_same n (closing s c) x way d = refl
row_same n (tracing s c buffer) x way d = refl
row_same n (arming m k) x way d = refl
row_same n (disarming m k) x way d = refl
row_same n (opening_all sends) x way d = refl
row_same n (booking ports index) x way d = refl
row_same n (judging ports index circuits hops) x way d = refl
row_same n (folding mask) x way d = refl

-- on a narrow table no port is above 7
narrow_digits : (b : List ℕ) (s c : ℕ) → Digits (traced_ports (table_step port_count) b s c)
unfolding PortsThere view
narrow_digits b s c = traced_path port_count b s c Digits (λ p m. elim m [ ]) each
  where
    each : (w : Path) → length b ≡ length_of port_count → (view b).dimension ≤ largest_dimension → length w ≤ 9 → PortsThere (shape_of (view b)) w → Digits w
    each w long most hops there p m =
        let e = there p m in
        let low = ltb-true p (dimension_at b) (sym (unfolded_present (dimension_at b) p (omega arith)) ∙ ap (λ f. present (dimension_at b) f p) (sym (fold_none b long)) ∙ e) in
        omega (arith, low)

-- every call but a folding is one on a narrow table
narrow_kind : (a : Option Call) → ((mask : ℕ) → a ≢ some (folding mask)) → IfRead (OfKind port_count) a
narrow_kind none f = tt
narrow_kind (some (making D)) f = tt
narrow_kind (some (blocking n p)) f = tt
narrow_kind (some (unblocking n p)) f = tt
narrow_kind (some (opening s c t y v)) f = tt
narrow_kind (some (closing s c)) f = tt
narrow_kind (some (tracing s c buffer)) f = tt
narrow_kind (some (arming n k)) f = tt
narrow_kind (some (disarming n k)) f = tt
narrow_kind (some (opening_all sends)) f = tt
narrow_kind (some (booking ports index)) f = tt
narrow_kind (some (judging ports index circuits hops)) f = tt
narrow_kind (some (folding mask)) f = absurd (f mask refl)

same_before : (b : List ℕ) (n : ℕ) (a : Option Call) → Same (row_for (table_step port_count) b n a)
unfolding row_for
same_before b n none = unfold unreadable in_order field_before field_bytes in refl
same_before b n (some a) = row_same n a _ _ (narrow_digits (table_step port_count b a).state)

rows_same : (ls : List (List ℕ)) (b : List ℕ) (h : History) (n : ℕ) → Represents port_count b h → WithoutFolding ls
    → rows_text (rows history_step h n ls) ≡ rows_before (rows (table_step port_count) b n ls)
unfolding rows rows_text rows_before row_text
rows_same [] b h n k without = refl
rows_same (l ∷ ls) b h n k without =
    let kind = narrow_kind (asks l) (without l (Memᴰ.head refl)) in
    let row = ap row_text (sym (row_alike port_count (inl refl) b h k n (asks l) kind)) ∙ ap ended (sym (same_before b n (asks l))) in
    ap₂ ◌++◌ row
    (rows_same ls (state_after (table_step port_count) b (asks l)) (state_after history_step h (asks l)) (suc n) (represents_after port_count (inl refl) b h k (asks l) kind)
    (λ m i. without m (Memᴰ.tail i)))

-- Listing 18, byte for byte.
pub printed_as_before : (input : List ℕ) → WithoutFolding (lines input) → printed input ≡ printed_before input
unfolding recorded listing printed_before
printed_as_before input without =
    prints_history input
    ∙ ap (λ (t : List ℕ). cond (ltb input_limit (length input)) too_long (header ++ t)) (rows_same (lines input) (encode (fresh 1)) (new_history 1) 1 (start_represents port_count (inl refl)) without)

-- So it is where no line begins with M.
pub printed_without_m : (input : List ℕ) → ((l : List ℕ) → l ∈ lines input → get_or l 0 0 ≢ letter_m) → printed input ≡ printed_before input
printed_without_m input other = printed_as_before input (λ l m mask. only_m_folds l mask (other l m))
