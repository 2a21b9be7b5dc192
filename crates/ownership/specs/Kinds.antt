-- The two kinds of tables and of calls, and lists of calls of either kind on one table.
-- Assumes nothing.
use Rattle.std.specs.Prelude.{Bool, true, false, ◌≡◌, ◌≢◌, cond, List, [], ◌∷◌, ◌++◌, ℕ}
use Rattle.cube.specs.Cube.{port_count}
use Rattle.layout.specs.Layout.{wide_ports}
use Rattle.ownership.specs.Calls.{Call, folding, refused_with, lent, After}
use Rattle.ownership.specs.OnTable.{table_step}
use Rattle.ownership.specs.History.{History, history_step}
use Rattle.ownership.specs.HistoryView.{bytes_of}
use Rattle.ownership.specs.Agrees.{after_calls, call_results}
use Rattle.ownership.specs.Invariant.{Valid}

-- Tables 1: 8,705 bytes. Wide 1: 14,338.
pub data Kind : Type 0 where
  narrow wide : Kind

-- the ports of a node of such a table
abbrev pub kind_ports : Kind → ℕ
kind_ports narrow = port_count
kind_ports wide = wide_ports

abbrev pub same_kind : Kind → Kind → Bool
same_kind narrow narrow = true
same_kind wide wide = true
same_kind _ _ = false

abbrev pub other_kind : Kind → Kind
other_kind narrow = wide
other_kind wide = narrow

-- Calls 19: the kind of table that a call is made for, the one that is named with it. Folding 3: setting the fold mask is one of the wide kind, whatever is named.
abbrev pub kind_of : Kind → Call → Kind
kind_of w (folding mask) = wide
kind_of w _ = w

-- a call on tables of one kind: the same call on the other kind is another function
pub record KindCall : Type 0 where
  pub kind : Kind
  pub call : Call

abbrev pub of_kind : Kind → Call → KindCall
of_kind w a = record { kind = w; call = a }

-- what it does to the bytes of a table, whatever kind that is,
abbrev pub kind_step : List ℕ → KindCall → After (List ℕ)
kind_step b x = table_step (kind_ports (kind_of x.kind x.call)) b x.call

-- and to the history of a table of kind w. History 15: a call of the other kind is refused as 1, and changes nothing.
unfoldable pub history_kind_step : Kind → History → KindCall → After History
history_kind_step w h x = cond (same_kind (kind_of x.kind x.call) w) (history_step h x.call) (record { state = h; result = refused_with 1 x.call })

abbrev pub kind_after : List ℕ → List KindCall → List ℕ
kind_after b calls = after_calls kind_step b calls

abbrev pub history_kind_after : Kind → History → List KindCall → History
history_kind_after w h calls = after_calls (history_kind_step w) h calls

-- History 11 and History 15 for a list of calls of either kind on one table, of kind w: as Agrees says it of calls of one kind.
pub record AgreesOfKind (w : Kind) (b : List ℕ) (h : History) (calls : List KindCall) : Type 0 where
  pub bytes : kind_after b calls ≡ bytes_of (kind_ports w) (history_kind_after w h calls)
  pub results : call_results kind_step b calls ≡ call_results (history_kind_step w) h calls
  pub valid : Valid (history_kind_after w h calls)
  pub refused : (before : List KindCall) (x : KindCall) (more : List KindCall) → calls ≡ before ++ x ∷ more → (kind_step (kind_after b before) x).result.number ≢ 0
      → (kind_after b (before ++ x ∷ []) ≡ kind_after b before) × ((kind_step (kind_after b before) x).result.buffers ≡ lent x.call)
