-- What few failing links cannot do to an open on a table. Each statement is the contract of a function of this crate (src/lib.rt), and is proved with it. q is the number of
-- ports of a node: 8 of a narrow table, 18 of a wide one.
-- Assumes nothing.
use Rattle.std.specs.Prelude.{◌≡◌, ◌⊎◌, ◌≢◌, false, List, ℕ, ◌*◌, ◌<◌}
use Rattle.common.specs.Lists.{◌∈◌}
use Rattle.common.specs.Tests.{refusal}
use Rattle.cube.specs.Cube.{channels}
use Rattle.paths.specs.CubeNetwork.{Node, ports}
use Rattle.layout.specs.Resources.{Width}
use Rattle.table.specs.View.{View, view, shape_of}
use Rattle.soundness.specs.TableTests.{table_tests}
use Rattle.answers.specs.SendOnTable.{free_in}
use Rattle.answers.specs.SendSays.{Available}
use Rattle.ownership.specs.Calls.{Call, opening}
use Rattle.ownership.specs.OnTable.{stopped_at}
use Rattle.ownership.specs.TableFacts.{open_in}
use Rattle.ownership.specs.Promises.{open_number}
use Rattle.faults.specs.Faults.{failing, full_vector, MazeType, EachPortType, AllFolded}

-- how many links a table shows blocked or held, and how many blocked
unfoldable pub not_free : View → ℕ
not_free v = failing (shape_of v) (free_in v)

unfoldable pub blocked : View → ℕ
blocked v = failing (shape_of v) v.enabled

-- an open over every port below D, and the number that it answers
abbrev pub opening_over_all : List ℕ → (s c t y : ℕ) → Call
opening_over_all b s c t y = opening s c t y (full_vector (view b).dimension)

abbrev pub number_over_all : ℕ → List ℕ → (s c t y : ℕ) → ℕ
number_over_all q b s c t y = open_number q b s c t y (full_vector (view b).dimension)

-- An open over all ports, of a type in question, that no earlier test stops is not rejected for want of a route: it answers 0 where a receive channel of the target is armed and
-- not held, and 11 where none is.
abbrev pub FindsRoute : ℕ → List ℕ → (ℕ → Type 0) → Type 0
FindsRoute q b OfType =
    (s c t y : ℕ) → OfType y → stopped_at q b (opening_over_all b s c t y) ≡ 0
    → ((number_over_all q b s c t y ≡ 0) × Available (view b) t) ⊎ ((number_over_all q b s c t y ≡ 11) × (Available (view b) t → ⊥))

-- no such open answers 22, whether a test stops it or not
abbrev pub Never22 : ℕ → List ℕ → (ℕ → Type 0) → Type 0
Never22 q b OfType = (s c t y : ℕ) → OfType y → number_over_all q b s c t y ≢ 22

-- Where nothing is folded, fewer than D links that are not free leave each open over all ports, of type 0, 1 or 4, a route; and fewer than D blocked ones never make it 22.
abbrev pub FewFindRoute : Type 0
FewFindRoute = (q : ℕ) → Width q → (b : List ℕ) → (view b).fold ≡ 0 → not_free (view b) < (view b).dimension → FindsRoute q b EachPortType

abbrev pub FewNever22 : Type 0
FewNever22 = (q : ℕ) → Width q → (b : List ℕ) → (view b).fold ≡ 0 → blocked (view b) < (view b).dimension → Never22 q b EachPortType

-- So every node then reaches every other, and itself: on a table that passes its tests, if the send channel has no open circuit and a receive channel of the target is armed
-- and not held.
abbrev pub EveryNodeReached : Type 0
EveryNodeReached =
    (q : ℕ) → Width q → (b : List ℕ) → refusal (table_tests q b) ≡ 0 → (view b).fold ≡ 0 → not_free (view b) < (view b).dimension
    → (s c t y : ℕ) → Node (shape_of (view b)) s → Node (shape_of (view b)) t → c < channels → open_in (view b) s c ≡ false → EachPortType y → Available (view b) t
    → number_over_all q b s c t y ≡ 0

-- D links can stop it: where every link out of the source is blocked, an open that no earlier test stops answers 22, whatever its type and vector.
abbrev pub EnoughStop : Type 0
EnoughStop =
    (q : ℕ) → Width q → (b : List ℕ) (s c t y v : ℕ) → ((p : ℕ) → p ∈ ports (shape_of (view b)) → (view b).enabled s p ≡ false) → stopped_at q b (opening s c t y v) ≡ 0
    → open_number q b s c t y v ≡ 22

-- Whatever is folded, fewer than D leave each of type 0 or 4 a route, and fewer than 2 D where every dimension is folded; and so for 22.
abbrev pub FoldedFindRoute : Type 0
FoldedFindRoute = (q : ℕ) → Width q → (b : List ℕ) → not_free (view b) < (view b).dimension → FindsRoute q b MazeType

abbrev pub AllFoldedFindRoute : Type 0
AllFoldedFindRoute =
    (q : ℕ) → Width q → (b : List ℕ) → AllFolded (shape_of (view b)) → not_free (view b) < 2 * (view b).dimension → FindsRoute q b MazeType

abbrev pub FoldedNever22 : Type 0
FoldedNever22 =
    (q : ℕ) → Width q → (b : List ℕ)
    → (blocked (view b) < (view b).dimension) ⊎ (AllFolded (shape_of (view b)) × (blocked (view b) < 2 * (view b).dimension)) → Never22 q b MazeType
