-- What the users can rely on of the scouts of an open, one statement for each promise. Each is the contract of a function of this crate (src/lib.rt), and is proved with it. q is the
-- number of ports of a node: 8 of a narrow table, 18 of a wide one.
-- Assumes nothing.
use Rattle.std.specs.Prelude.{◌≡◌, ◌⊎◌, true, not, List, ℕ, ◌+◌, ◌≤◌, ◌<◌, eqb, length, get_or}
use Rattle.cube.specs.Bits.{has}
use Rattle.cube.specs.Cube.{largest_dimension, next}
use Rattle.paths.specs.CubeNetwork.{Shape, LinkOf}
use Rattle.layout.specs.Layout.{length_of, wide_ports}
use Rattle.layout.specs.Resources.{Width}
use Rattle.table.specs.View.{view, shape_of}
use Rattle.ownership.specs.Calls.{opening, scouts_of}
use Rattle.answers.specs.SendOnTable.{free_in}
use Rattle.ownership.specs.OnTable.{stopped_at, table_step}
use Rattle.ownership.specs.Agrees.{table_results}
use Rattle.ownership.specs.Promises.{open_number}
use Rattle.most_scouts.specs.Unarrived.{most_sent, most_unfolded, most_folded}
use Rattle.most_scouts.specs.Reaching.{reaching, reaching_folded, reached, reached_folded}

-- the scouts that an open answers
abbrev pub open_scouts : (q : ℕ) (b : List ℕ) (s c t y v : ℕ) → ℕ
open_scouts q b s c t y v = scouts_of (table_step q b (opening s c t y v)).result

-- it is route rejected
abbrev pub RouteRejected : (q : ℕ) (b : List ℕ) (s c t y v : ℕ) → Type 0
RouteRejected q b s c t y v = (open_number q b s c t y v ≡ 10) ⊎ (open_number q b s c t y v ≡ 22)

-- An open that is route rejected has sent no more scouts than there are beginnings over all ports of its source that have not arrived, whatever its routing type and its send vector,
-- and whatever is folded, blocked and held.
abbrev pub RejectedCounted : Type 0
RejectedCounted = (q : ℕ) (b : List ℕ) (s c t y v : ℕ) → RouteRejected q b s c t y v → open_scouts q b s c t y v ≤ most_sent (shape_of (view b)) s t

-- So by dimension: where nothing is folded,
abbrev pub RejectedMost : Type 0
RejectedMost =
    (q : ℕ) (b : List ℕ) (s c t y v : ℕ) → RouteRejected q b s c t y v → (view b).fold ≡ 0 → open_scouts q b s c t y v ≤ get_or most_unfolded (view b).dimension 0

-- and whatever is.
abbrev pub RejectedMostFolded : Type 0
RejectedMostFolded = (q : ℕ) (b : List ℕ) (s c t y v : ℕ) → RouteRejected q b s c t y v → open_scouts q b s c t y v ≤ get_or most_folded (view b).dimension 0

-- Every other open has sent at most one more, that which arrived.
abbrev pub OpensCounted : Type 0
OpensCounted = (q : ℕ) (b : List ℕ) (s c t y v : ℕ) → open_scouts q b s c t y v ≤ most_sent (shape_of (view b)) s t + 1

abbrev pub OpensMost : Type 0
OpensMost = (q : ℕ) (b : List ℕ) (s c t y v : ℕ) → (view b).fold ≡ 0 → open_scouts q b s c t y v ≤ get_or most_unfolded (view b).dimension 0 + 1

abbrev pub OpensMostFolded : Type 0
OpensMostFolded = (q : ℕ) (b : List ℕ) (s c t y v : ℕ) → open_scouts q b s c t y v ≤ get_or most_folded (view b).dimension 0 + 1

-- The bound of Scouts 8 follows.
abbrev pub OpensBelowPapers : Type 0
OpensBelowPapers = (q : ℕ) (b : List ℕ) (s c t y v : ℕ) → (view b).fold ≡ 0 → open_scouts q b s c t y v ≤ 123300

-- It is reached, from every source to every target, whatever is folded: where the free links are those that do not lead to the target, an open of type 0 over all ports is route rejected, with a
-- scout for each such beginning.
abbrev pub Walled : (b : List ℕ) (t : ℕ) → Type 0
Walled b t = (n p : ℕ) → LinkOf (shape_of (view b)) n p → free_in (view b) n p ≡ not (eqb (next n p) t)

abbrev pub AllPorts : Shape → (v : ℕ) → Type 0
AllPorts S v = (p : ℕ) → p < S.dimension → has v p ≡ true

abbrev pub WalledCounted : Type 0
WalledCounted =
    (q : ℕ) (b : List ℕ) (s c t v : ℕ) → stopped_at q b (opening s c t 0 v) ≡ 0 → Walled b t → AllPorts (shape_of (view b)) v
    → RouteRejected q b s c t 0 v × (open_scouts q b s c t 0 v ≡ most_sent (shape_of (view b)) s t)

-- So in every dimension by these calls, on any table.
abbrev pub MostReached : Type 0
MostReached = (q : ℕ) → Width q → (b : List ℕ) → length b ≡ length_of q → (D : ℕ) → 1 ≤ D → D ≤ largest_dimension → table_results q b (reaching D) ≡ reached D

abbrev pub MostFoldedReached : Type 0
MostFoldedReached =
    (b : List ℕ) → length b ≡ length_of wide_ports → (D : ℕ) → 1 ≤ D → D ≤ largest_dimension → table_results wide_ports b (reaching_folded D) ≡ reached_folded D
