-- What the shift may rely on of opens that are tried again, one statement for each promise. Each is the contract of a function of this crate (src/lib.rt), and is proved with
-- it. q and r are the ports of a node: 8 of a narrow table, 18 of a wide one.
-- Assumes nothing.
use Rattle.std.specs.Prelude.{◌≡◌, ◌⊎◌, List, [], ◌∷◌, ℕ, length}
use Rattle.common.specs.Tests.{refusal}
use Rattle.layout.specs.Layout.{wide_ports, wide_length}
use Rattle.layout.specs.Resources.{Width}
use Rattle.table.specs.View.{view}
use Rattle.table.specs.Encode.{AllBytes}
use Rattle.soundness.specs.TableTests.{table_tests}
use Rattle.ownership.specs.Calls.{Call, making, blocking, opening, closing, arming, folding}
use Rattle.ownership.specs.OnTable.{table_step}
use Rattle.ownership.specs.Agrees.{Accepted, table_after}
use Rattle.ownership.specs.Promises.{open_number}
use Rattle.freedom.specs.Freedom.{AtLeastAsFree, MazeType, FoldsNoMore, UnfoldsNothing, EachTakesNothing}

-- More freedom never hurts, of any two tables, each of either kind: an open that is acknowledged on the one is acknowledged on the other, where that is sound and leaves it
-- at least as much. An open of types 0 and 4 may meet any fold masks; one of types 1 and 3 needs that the other table folds no dimension that the one does not.
abbrev pub MoreFreedomNeverHurts : Type 0
MoreFreedomNeverHurts =
    (q r : ℕ) → Width q → Width r → (a b : List ℕ) → refusal (table_tests r b) ≡ 0 → (s c t type vector : ℕ) → AtLeastAsFree s c t (view a) (view b)
    → MazeType type ⊎ FoldsNoMore (view a) (view b) → Accepted q a (opening s c t type vector) → Accepted r b (opening s c t type vector)

-- An open of type 0 or 4 that is acknowledged is acknowledged, too, with more dimensions folded.
abbrev pub FoldingNeverHurts : Type 0
FoldingNeverHurts =
    (b : List ℕ) → AllBytes b → (s c t type vector mask : ℕ) → MazeType type → UnfoldsNothing (view b).fold mask → Accepted wide_ports b (opening s c t type vector)
    → Accepted wide_ports (table_step wide_ports b (folding mask)).state (opening s c t type vector)

-- Of types 1 and 3 that is not so. On any wide table made with dimension 3, where receive channel 0 of node 7 is armed and the link out of port 0 of node 6 blocked, an open
-- from node 0 to node 7 over port 2 is acknowledged; once dimension 1 is folded, it is answered 22.
abbrev pub made_for_folding : List ℕ → List ℕ
made_for_folding b = table_after wide_ports b (making 3 ∷ arming 7 0 ∷ blocking 6 0 ∷ [])

abbrev pub FoldingCanHurt : Type 0
FoldingCanHurt =
    (b : List ℕ) → length b ≡ wide_length → (type : ℕ) → (type ≡ 1) ⊎ (type ≡ 3)
    → Accepted wide_ports (made_for_folding b) (opening 0 0 7 type 4) × (open_number wide_ports (table_step wide_ports (made_for_folding b) (folding 2)).state 0 0 7 type 4 ≡ 22)

-- An open that is acknowledged is acknowledged, too, after any list of calls that take nothing from it.
abbrev pub ListsNeverHurt : Type 0
ListsNeverHurt =
    (q : ℕ) → Width q → (b : List ℕ) → AllBytes b → (s c t type vector : ℕ) → Accepted q b (opening s c t type vector) → (calls : List Call) → EachTakesNothing q type b calls
    → Accepted q (table_after q b calls) (opening s c t type vector)

-- Promises 11: so it is after closing any circuit.
abbrev pub ClosingNeverHurts : Type 0
ClosingNeverHurts =
    (q : ℕ) → Width q → (b : List ℕ) → AllBytes b → (s c t type vector : ℕ) → Accepted q b (opening s c t type vector) → (m k : ℕ)
    → Accepted q (table_step q b (closing m k)).state (opening s c t type vector)
