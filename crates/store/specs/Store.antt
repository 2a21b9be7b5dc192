-- Several tables of both kinds, each with a number: what an event does to them, and what is known of each of them afterwards.
-- Assumes nothing.
use Rattle.std.specs.Prelude.{◌≡◌, ◌≢◌, cond, not, ◌&&◌, ◌||◌, List, [], ◌∷◌, ◌++◌, length, ℕ, eqb, Option, Some, None, option_map}
use Rattle.common.specs.Tests.{Test, test, refusal}
use Rattle.cube.specs.Cube.{port_count, largest_dimension}
use Rattle.layout.specs.Layout.{length_of}
use Rattle.table.specs.View.{view}
use Rattle.soundness.specs.TableTests.{table_tests}
use Rattle.ownership.specs.Calls.{Call, making, folding, CallResult, only, lent, After}
use Rattle.ownership.specs.History.{History, history_step, new_history}
use Rattle.ownership.specs.HistoryView.{bytes_of}
use Rattle.ownership.specs.Invariant.{Represents}
use Rattle.ownership.specs.Kinds.{Kind, narrow, wide, kind_ports, same_kind, other_kind, of_kind, kind_step, history_kind_step}
use Rattle.joining.specs.Joined.{joined_history, join_step}
use Rattle.converting.specs.Converted.{convert_step}

-- History 16: an event: a call of a kind on the table of a number, where setting a fold mask is a call of the wide kind, whatever kind is named; what a table of one kind shows
-- written into one of the other; the tables of two numbers joined into that of a third, all narrow (Wide 16); or bytes that somebody else puts in place of a table's, by no call on it:
-- a table is loaded, say, or lent to another call as its buffer (Lending 9).
-- Conversions and joins are the calls that are lent more than one table. The one that is written overlaps no other (Lending 3), so it is no other table there; the first and the
-- second of a join may be one (Joining 8); nothing here needs either.
pub data Event : Type 0 where
  on : Kind → (table : ℕ) → Call → Event
  -- the kind is that of the table read
  convert : Kind → (read written : ℕ) → Event
  join : (first second third : ℕ) → Event
  overwrite : (table : ℕ) → List ℕ → Event

-- narrow to wide, and back
abbrev pub widening : (read written : ℕ) → Event
widening i j = convert narrow i j

abbrev pub narrowing : (read written : ℕ) → Event
narrowing i j = convert wide i j

-- the bytes of each table
abbrev pub Store : Type 0
Store = ℕ → List ℕ

-- History 17: a table whose history is known: its kind, and the history.
pub record KnownTable : Type 0 where
  pub kind : Kind
  pub history : History

abbrev pub table_of : Kind → History → KnownTable
table_of w h = record { kind = w; history = h }

-- History 17: the history of each table of which one is known: of table i where `k i` is `Some t`.
abbrev pub Known : Type 0
Known = ℕ → Option KnownTable

-- no table's history is known
abbrev pub nothing_known : Known
nothing_known i = None

-- History 16: one table's part is x, that of every other as it was.
unfoldable pub with_table : {A : Type 0} → (ℕ → A) → ℕ → A → ℕ → A
with_table f i x j = cond (eqb i j) x (f j)

-- What an event does to the store, and what it gives: what the call does to the bytes of its table, the conversion to those of the table written, or the join to those of the
-- third, by the contracts' own definitions. Every other table stays. Of bytes written by somebody else nothing is asked.
unfoldable pub store_step : Store → Event → After Store
store_step s (on w i a) = let x = kind_step (s i) (of_kind w a) in record { state = with_table s i x.state; result = x.result }
store_step s (convert w i j) = let x = convert_step (kind_ports w) (kind_ports (other_kind w)) (s i) (s j) in record { state = with_table s j x.state; result = x.result }
store_step s (join i j t) = let x = join_step (s i) (s j) (s t) in record { state = with_table s t x.state; result = x.result }
store_step s (overwrite i b) = record { state = with_table s i b; result = only 0 }

-- the buffers that an event is lent beside tables
unfoldable pub lent_to : Event → List (List ℕ)
lent_to (on w i a) = lent a
lent_to (convert w i j) = []
lent_to (join i j t) = []
lent_to (overwrite i b) = []

-- History 17: what is known of a table after an accepted call on it. A making begins a history, whatever was known before; every other call, setting a fold mask too, is
-- entered in the history, if one is known.
unfoldable pub entered : Kind → Option KnownTable → Call → Option KnownTable
entered w o (making D) = Some (table_of w (new_history D))
entered w o a = option_map (λ t. table_of t.kind (history_step t.history a).state) o

-- History 18, Wide 15: what is known of the table written after an accepted conversion: the history that is known of the one read, in place of its own; and nothing where none is.
unfoldable pub converted_of : Kind → Option KnownTable → Option KnownTable
converted_of w (Some t) = Some (table_of (other_kind w) t.history)
converted_of w None = None

-- History 19: what is known of the third table after an accepted join: the history of both halves, in place of its own, where both are known; and else nothing.
unfoldable pub joined_of : Option KnownTable → Option KnownTable → Option KnownTable
joined_of (Some t) (Some u) = Some (table_of narrow (joined_history t.history u.history))
joined_of (Some t) None = None
joined_of None o = None

-- What is known after an event, by the number that it answered. A refused event changes nothing (History 17), and of every other table the same is known as before. History 20:
-- bytes that somebody else writes end what is known.
unfoldable pub learn : Known → Event → ℕ → Known
learn k (on w i a) n = with_table k i (cond (eqb n 0) (entered w (k i) a) (k i))
learn k (convert w i j) n = with_table k j (cond (eqb n 0) (converted_of w (k i)) (k j))
learn k (join i j t) n = with_table k t (cond (eqb n 0) (joined_of (k i) (k j)) (k t))
learn k (overwrite i b) n = with_table k i (cond (eqb n 0) None (k i))

-- a list of events, one after another: the store that they leave, what is known then, and what each of them gives
unfoldable pub store_after : Store → List Event → Store
store_after s [] = s
store_after s (e ∷ more) = store_after (store_step s e).state more

unfoldable pub known_after : Store → Known → List Event → Known
known_after s k [] = k
known_after s k (e ∷ more) = let x = store_step s e in known_after x.state (learn k e x.result.number) more

unfoldable pub store_results : Store → List Event → List CallResult
store_results s [] = []
store_results s (e ∷ more) = let x = store_step s e in x.result ∷ store_results x.state more

-- History 21: the bytes of each table whose history is known represent that history.
abbrev pub Represented : Store → Known → Type 0
Represented s k = (i : ℕ) (t : KnownTable) → k i ≡ Some t → Represents (kind_ports t.kind) (s i) t.history

-- What a join or a conversion asks of a table of kind w that it reads: b are its bytes, o is what is known of it. Where its history is known, its bytes are not read. It passes 1
-- to 3 (History 3); but a table of the other kind is refused as 1 (Calls 19).
unfoldable pub read_tests : Kind → List ℕ → Option KnownTable → List Test
read_tests w b (Some t) = test (not (same_kind w t.kind)) 1 ∷ []
read_tests w b None = table_tests (kind_ports w) b

-- its dimension and its fold mask are the history's
unfoldable pub known_dimension : List ℕ → Option KnownTable → ℕ
known_dimension b (Some t) = t.history.dimension
known_dimension b None = (view b).dimension

unfoldable pub known_fold : List ℕ → Option KnownTable → ℕ
known_fold b (Some t) = t.history.fold
known_fold b None = (view b).fold

-- Joining 2, as far as the known histories say it: a and b are the bytes of the two halves, o and p what is known of them, n is the length of the third table.
unfoldable pub known_join_number : List ℕ → Option KnownTable → List ℕ → Option KnownTable → ℕ → ℕ
known_join_number a o b p n =
    refusal
    (read_tests narrow a o ++ read_tests narrow b p
    ++ test (not (eqb n (length_of port_count))) 1 ∷ test (not (eqb (known_dimension a o) (known_dimension b p)) || eqb (known_dimension a o) largest_dimension) 29 ∷ [])

-- Wide 12, as far as the known history says it: a are the bytes of the table read, of kind w, o is what is known of it, n is the length of the table written.
unfoldable pub known_convert_number : Kind → List ℕ → Option KnownTable → ℕ → ℕ
known_convert_number w a o n =
    refusal
    (read_tests w a o
    ++ test (not (eqb n (length_of (kind_ports (other_kind w))))) 1 ∷ test (same_kind w wide && not (eqb (known_fold a o) 0)) 24 ∷ [])

-- History 21: a call on a table whose history is known gives what that history says; one of the other kind is refused as 1, and so is setting a fold mask on a narrow table. A join or a conversion gives a number alone: it is read off the
-- histories of the tables read, and where one of them is not known, off that table's bytes. Nobody is asked what bytes somebody else writes.
unfoldable pub GivesAsKnown : Store → Known → Event → Type 0
GivesAsKnown s k (on w i a) = (t : KnownTable) → k i ≡ Some t → (store_step s (on w i a)).result ≡ (history_kind_step t.kind t.history (of_kind w a)).result
GivesAsKnown s k (convert w i j) = (store_step s (convert w i j)).result ≡ only (known_convert_number w (s i) (k i) (length (s j)))
GivesAsKnown s k (join i j t) = (store_step s (join i j t)).result ≡ only (known_join_number (s i) (k i) (s j) (k j) (length (s t)))
GivesAsKnown s k (overwrite i b) = Unit

-- History 21, for several tables and a list of events, refused ones included: each table whose history is known then agrees with it in every byte, and
-- what always holds of a history holds of it; wherever an event of the list is a call on a table whose history is known there, it gives what that history says; wherever it is
-- a join or a conversion, it gives what the known histories of the tables read say, and the bytes of the others; and wherever one is refused, each byte of every table and of its
-- lent buffers is as it was.
pub record StoreAgrees (s : Store) (k : Known) (events : List Event) : Type 0 where
  pub represented : Represented (store_after s events) (known_after s k events)
  pub bytes : (i : ℕ) (t : KnownTable) → known_after s k events i ≡ Some t → store_after s events i ≡ bytes_of (kind_ports t.kind) t.history
  pub results : (before : List Event) (e : Event) (more : List Event) → events ≡ before ++ e ∷ more → GivesAsKnown (store_after s before) (known_after s k before) e
  pub refused : (before : List Event) (e : Event) (more : List Event) → events ≡ before ++ e ∷ more → (store_step (store_after s before) e).result.number ≢ 0
      → ((i : ℕ) → store_after s (before ++ e ∷ []) i ≡ store_after s before i) × ((store_step (store_after s before) e).result.buffers ≡ lent_to e)

-- History 15: setting the fold mask is a call on a wide table, whatever kind is named with it. Where the history of a narrow table is known, it is refused as 1; where that of a
-- wide one is, it gives what that history says of a fold mask, and where it is accepted, it is entered as every other call is.
pub record FoldsWide (s : Store) (k : Known) : Type 0 where
  pub named : (w : Kind) (i mask : ℕ) → store_step s (on w i (folding mask)) ≡ store_step s (on wide i (folding mask))
  pub on_narrow : (w : Kind) (i mask : ℕ) (h : History) → k i ≡ Some (table_of narrow h) → (store_step s (on w i (folding mask))).result ≡ only 1
  pub on_wide : (w : Kind) (i mask : ℕ) (h : History) → k i ≡ Some (table_of wide h) → (store_step s (on w i (folding mask))).result ≡ (history_step h (folding mask)).result
  pub entered : (w : Kind) (i mask : ℕ) (h : History) → k i ≡ Some (table_of wide h)
      → learn k (on w i (folding mask)) (store_step s (on w i (folding mask))).result.number i ≡ Some (table_of wide (history_step h (folding mask)).state)

-- an event may write no other table than this one
unfoldable pub written_by : Event → ℕ
written_by (on w i a) = i
written_by (convert w i j) = j
written_by (join i j t) = t
written_by (overwrite i b) = i

-- no event of a list may write table i
unfoldable pub Unwritten : ℕ → List Event → Type 0
Unwritten i [] = Unit
Unwritten i (e ∷ more) = (written_by e ≢ i) × Unwritten i more
