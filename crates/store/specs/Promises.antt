-- What the users rely on where there are several tables, one statement for each promise. Each is the contract of a function of this crate (src/lib.rt), and is proved with it.
-- Assumes nothing.
use Rattle.std.specs.Prelude.{◌≡◌, List, ◌∷◌, ℕ}
use Rattle.ownership.specs.Calls.{making}
use Rattle.ownership.specs.History.{History}
use Rattle.ownership.specs.Agrees.{Accepted}
use Rattle.ownership.specs.Kinds.{Kind, kind_ports, KindCall, of_kind, AgreesOfKind}
use Rattle.store.specs.Store.{Event, Store, Known, Represented, learn, StoreAgrees, FoldsWide}
use Rattle.store.specs.Learns.{Learns}

-- Promises 5, History 21, for several tables of both kinds: from any store, and whatever is known of it and represented, as where nothing is known, after any list of events.
abbrev pub TablesAgree : Type 0
TablesAgree = (s : Store) (k : Known) → Represented s k → (events : List Event) → StoreAgrees s k events

-- History 11, History 15: so for one table: after an accepted making, any list of calls of either kind on it.
abbrev pub OneTableAgrees : Type 0
OneTableAgrees = (i : ℕ) (w : Kind) (s : Store) (h : History) (D : ℕ) → Accepted (kind_ports w) (s i) (making D) → (calls : List KindCall) → AgreesOfKind w (s i) h (of_kind w (making D) ∷ calls)

-- What is known after an event is what the rules say (History 16 to 20),
abbrev pub KnownAsSaid : Type 0
KnownAsSaid = (k : Known) (n : ℕ) (e : Event) → Learns k e n (learn k e n)

-- and nothing else is.
abbrev pub KnownExactly : Type 0
KnownExactly = (k : Known) (e : Event) (n : ℕ) (l : Known) → Learns k e n l → (i : ℕ) → l i ≡ learn k e n i

-- History 15: setting a fold mask is a call on a wide table, whatever kind is named with it.
abbrev pub FoldingIsWide : Type 0
FoldingIsWide = (s : Store) (k : Known) → Represented s k → FoldsWide s k
