-- What the users rely on (Promises), one statement for each promise. Each is the contract of a function of this crate (src/lib.rt), and is proved with it. q is the number of
-- ports of a node: 8 of a narrow table, 18 of a wide one.
-- Assumes nothing.
use Rattle.std.specs.Prelude.{◌≡◌, true, ◌≢◌, ◌⊎◌, ◌↔◌, List, [], ◌∷◌, ℕ, ◌<◌}
use Rattle.common.specs.Lists.{◌∈◌}
use Rattle.common.specs.Tests.{refusal}
use Rattle.cube.specs.Cube.{port_count, channels, circuit_of}
use Rattle.paths.specs.Network.{Link}
use Rattle.paths.specs.Between.{VectorUphill}
use Rattle.layout.specs.Resources.{Width}
use Rattle.table.specs.View.{view}
use Rattle.table.specs.Encode.{AllBytes}
use Rattle.soundness.specs.TableTests.{table_tests}
use Rattle.answers.specs.SendSays.{SendSays}
use Rattle.judging.specs.Judged.{judge_facts}
use Rattle.judging.specs.Loadable.{Loadable}
use Rattle.book.specs.BookOf.{open_numbers}
use Rattle.book.specs.WellFormed.{WellFormed}
use Rattle.judging.specs.Judged.{circuits_in}
use Rattle.ownership.specs.Calls.{Call, making, opening, opening_all, judging, OfKind, hops_of, receive_of, scouts_of, lent}
use Rattle.ownership.specs.OnTable.{stopped_at, table_step}
use Rattle.ownership.specs.History.{Circuit, History, net_on, links_of}
use Rattle.ownership.specs.FromTable.{history_of}
use Rattle.ownership.specs.Agrees.{Agrees, Accepted, table_after, history_after}
use Rattle.ownership.specs.AllArmed.{FewLinks, AllArmed, CubeArmed}
use Rattle.ownership.specs.Closing.{Each, ClosesOrArms, RepairsNothing, GivesFreedom}
use Rattle.ownership.specs.SameOpen.{SameBetween, SameOpen}
use Rattle.ownership.specs.JobSays.{JobSays}
use Rattle.ownership.specs.LoadedBook.{CanLoad}

-- the number that an open answers
abbrev pub open_number : (q : ℕ) (b : List ℕ) (s c t y v : ℕ) → ℕ
open_number q b s c t y v = (table_step q b (opening s c t y v)).result.number

-- Promises 5, History 11: table and ownership history agree after an accepted making and any list of calls.
abbrev pub CallsAgree : Type 0
CallsAgree = (q : ℕ) → Width q → (b : List ℕ) (h : History) (D : ℕ) → Accepted q b (making D) → (calls : List Call) → Each (OfKind q) calls → Agrees q b h (making D ∷ calls)

-- History 14: so does every table that passes its tests, whoever wrote it, with the history that it amounts to.
abbrev pub SoundTablesAgree : Type 0
SoundTablesAgree =
    (q : ℕ) → Width q → (b : List ℕ) → AllBytes b → refusal (table_tests q b) ≡ 0 → (calls : List Call) → Each (OfKind q) calls → Agrees q b (history_of (view b)) calls

-- Promises 6, History 13: no two open circuits share a link, nor a receive channel.
abbrev pub NoLinkShared : Type 0
NoLinkShared =
    (q : ℕ) → Width q → (b : List ℕ) (h : History) (D : ℕ) → Accepted q b (making D) → (calls : List Call) → Each (OfKind q) calls
    → (x y : Circuit) → x ∈ (history_after h (making D ∷ calls)).circuits → y ∈ (history_after h (making D ∷ calls)).circuits
    → (l : Link) → l ∈ links_of (net_on (history_after h (making D ∷ calls))) x → l ∈ links_of (net_on (history_after h (making D ∷ calls))) y → x ≡ y

abbrev pub NoReceiveShared : Type 0
NoReceiveShared =
    (q : ℕ) → Width q → (b : List ℕ) (h : History) (D : ℕ) → Accepted q b (making D) → (calls : List Call) → Each (OfKind q) calls
    → (x y : Circuit) → x ∈ (history_after h (making D ∷ calls)).circuits → y ∈ (history_after h (making D ∷ calls)).circuits
    → x.target ≡ y.target → x.receive ≡ y.receive → x ≡ y

-- Promises 2, Calls 5: a refused call leaves each byte of the table and of its buffers, and so does a rejected search (Searches 16).
abbrev pub RefusedLeaves : Type 0
RefusedLeaves = (q : ℕ) (b : List ℕ) (a : Call) → (table_step q b a).result.number ≢ 0 → ((table_step q b a).state ≡ b) × ((table_step q b a).result.buffers ≡ lent a)

-- Promises 3, Promises 4: an open that no test stops is acknowledged exactly when a free path exists and a receive channel is available, and all that a send says besides.
abbrev pub OpensSay : Type 0
OpensSay =
    (q : ℕ) → Width q → (b : List ℕ) (s c t y v : ℕ) → stopped_at q b (opening s c t y v) ≡ 0 → AllBytes b
    → SendSays q b s t (circuit_of s c) y v (open_number q b s c t y v) (hops_of (table_step q b (opening s c t y v)).result)
    (receive_of (table_step q b (opening s c t y v)).result) (scouts_of (table_step q b (opening s c t y v)).result) (table_step q b (opening s c t y v)).state

-- Promises 7: what type 3 acknowledges, type 1 does too, and what type 1 does, type 0.
abbrev pub TypesRise : Type 0
TypesRise =
    (q : ℕ) (b : List ℕ) (s c t v : ℕ) → Width q
    → (open_number q b s c t 3 v ≡ 0 → open_number q b s c t 1 v ≡ 0) × (open_number q b s c t 1 v ≡ 0 → open_number q b s c t 0 v ≡ 0)

-- Promises 9: once all circuits are closed and a receive channel of the target is armed, an open that was answered 10 is acknowledged.
abbrev pub WaitingHelps : Type 0
WaitingHelps =
    (q : ℕ) → Width q → (b : List ℕ) (s c t y v : ℕ) → AllBytes b → (calls : List Call) → Each ClosesOrArms calls → open_number q b s c t y v ≡ 10
    → open_numbers (view (table_after q b calls)) ≡ [] → (k : ℕ) → k < channels → (view (table_after q b calls)).armed t k ≡ true
    → open_number q (table_after q b calls) s c t y v ≡ 0

-- Promises 10: answered 22, an open is not acknowledged before a link is repaired, the table made anew or its fold mask set.
abbrev pub WaitingDoesNotHelp : Type 0
WaitingDoesNotHelp =
    (q : ℕ) → Width q → (b : List ℕ) (s c t y v : ℕ) → AllBytes b → (calls : List Call) → Each RepairsNothing calls → open_number q b s c t y v ≡ 22
    → (stopped_at q (table_after q b calls) (opening s c t y v) ≢ 0) ⊎ (open_number q (table_after q b calls) s c t y v ≡ 22)

-- Promises 11: an open that is acknowledged is acknowledged, too, after calls that close circuits, unblock links and arm channels.
abbrev pub FreedomNeverHurts : Type 0
FreedomNeverHurts =
    (q : ℕ) → Width q → (b : List ℕ) → AllBytes b → (s c t y v : ℕ) → Accepted q b (opening s c t y v) → (calls : List Call) → Each GivesFreedom calls
    → Accepted q (table_after q b calls) (opening s c t y v)

-- Promises 12: an open of type 0 whose vector names uphill ports alone comes to the same on two sound tables that agree between source and target.
abbrev pub SameSeenSameGot : Type 0
SameSeenSameGot =
    (q r : ℕ) → Width q → Width r → (a b : List ℕ) → AllBytes a → AllBytes b → refusal (table_tests q a) ≡ 0 → refusal (table_tests r b) ≡ 0
    → (s c t vector : ℕ) → VectorUphill s t vector → SameBetween s c t (view a) (view b) → SameOpen q r s c t 0 vector a b

-- Promises 8: where at most eight links lead into a node, no call answers 11 while all receive channels of the cube are armed,
abbrev pub NeverFull : Type 0
NeverFull = (q : ℕ) (b : List ℕ) → FewLinks (view b) → CubeArmed b → (a : Call) → (table_step q b a).result.number ≢ 11

-- nor does an open whose target has all its receive channels armed; and on a narrow table, where nothing is folded, neither needs more.
abbrev pub OpensNeverFull : Type 0
OpensNeverFull = (q : ℕ) (b : List ℕ) → FewLinks (view b) → (s c t y v : ℕ) → AllArmed b t → open_number q b s c t y v ≢ 11

abbrev pub NarrowNeverFull : Type 0
NarrowNeverFull = (b : List ℕ) (s c t y v : ℕ) → AllArmed b t → open_number port_count b s c t y v ≢ 11

-- Promises 13: a job comes to what its single opens come to, or to nothing.
abbrev pub JobsSay : Type 0
JobsSay = (q : ℕ) → Width q → (b sends : List ℕ) → AllBytes b → stopped_at q b (opening_all sends) ≡ 0 → JobSays q b sends (table_step q b (opening_all sends))

-- Promises 15: a book is accepted exactly when the table passes its tests and the book is loadable (Judging 2); and exactly when its circuits can be open beside those that
-- are (Judging 10).
abbrev pub JudgesExactly : Type 0
JudgesExactly =
    (q : ℕ) (b ports index : List ℕ) (circuits hops : ℕ)
    → Accepted q b (judging ports index circuits hops) ↔ ((refusal (table_tests q b) ≡ 0) × Loadable (judge_facts (view b)) ports index circuits hops)

abbrev pub LoadsExactly : Type 0
LoadsExactly =
    (q : ℕ) → Width q → (b : List ℕ) → AllBytes b → (ports index : List ℕ) (circuits hops : ℕ)
    → Accepted q b (judging ports index circuits hops) ↔ ((refusal (table_tests q b) ≡ 0) × WellFormed ports index circuits hops × CanLoad q (history_of (view b)) (circuits_in ports index circuits))
