-- Every table that passes the tests of a lent table represents a history. So what the theorem about lists of calls says holds from any such table on.
-- Assumes nothing.
use mathlib.Core.Path.{◌≡◌, ap, sym, ◌∙◌}
use mathlib.Core.Logic.{⊎_elim}
use mathlib.Core.Bool.{true}
use mathlib.Core.List.{List}
use Prim.Native.Nat.{ℕ, ◌<◌}
use Rattle.cube.specs.Cube.{channels}
use Rattle.common.specs.Tests.{refusal}
use Rattle.common.proofs.Tests.{same?, both, both_below}
use Rattle.layout.specs.Layout.{in_table, mask_at, armed_at}
use Rattle.layout.specs.Resources.{Width}
use Rattle.table.specs.View.{view}
use Rattle.table.specs.Encode.{AllBytes}
use Rattle.soundness.specs.TableTests.{table_tests}
use Rattle.ownership.specs.Calls.{Call, OfKind}
use Rattle.ownership.specs.Closing.{Each}
use Rattle.ownership.specs.Update.{updated}
use Rattle.ownership.specs.OnTable.{stopped_at, table_step}
use Rattle.ownership.specs.History.{history_step}
use Rattle.ownership.specs.Agrees.{Agrees}
use Rattle.ownership.specs.Invariant.{Represents}
use Rattle.ownership.specs.HistoryView.{view_of}
use Rattle.ownership.specs.FromTable.{history_of}
use Rattle.ownership.proofs.Stops.{pass_tests}
use Rattle.ownership.proofs.Applied.{applied_view}
use Rattle.ownership.proofs.Steps.{table_step_lem, history_step_lem}
use Rattle.ownership.proofs.StepBytes.{rejected_same}
use Rattle.ownership.proofs.Agreement.{represents_not_stopped, represents_step, represents_agrees}
use Rattle.ownership.proofs.HistoryOf.{shows_same, table_valid}

-- no bytes show a channel armed beyond the eight of a node
pub eight : (b : List ℕ) (n k : ℕ) → (view b).armed n k ≡ true → k < channels
unfolding view armed_at mask_at
eight b n k e = (both_below {n = n} {a = 256} (both (in_table channels n k) _ e).0).1

-- Every table that passes the tests of a lent table shows what its history says.
pub sound_represents : (q : ℕ) (b : List ℕ) → AllBytes b → refusal (table_tests q b) ≡ 0 → Represents q b (history_of (view b))
sound_represents q b small e =
    let p = pass_tests q b e in
    record {
      bytes = record { long = p.0; small = small };
      shows = shows_same (view b) p.3 (unfold view in p.2) (eight b);
      valid = table_valid (view b) p.3 (unfold view in p.2) (eight b) (unfold view in p.1);
    }

-- So lists of calls on such tables agree with that history from there on,
pub sound_agrees : (q : ℕ) → Width q → (b : List ℕ) → AllBytes b → refusal (table_tests q b) ≡ 0 → (calls : List Call) → Each (OfKind q) calls → Agrees q b (history_of (view b)) calls
sound_agrees q width b small e calls kinds = represents_agrees q width calls kinds b (history_of (view b)) (sound_represents q b small e)

-- and no call, accepted or refused, leaves a table that the next would refuse as a whole.
pub keeps_sound : (q : ℕ) → Width q → (b : List ℕ) → AllBytes b → refusal (table_tests q b) ≡ 0 → (a : Call) → OfKind q a → refusal (table_tests q (table_step q b a).state) ≡ 0
keeps_sound q width b small e a kind = represents_not_stopped q (table_step q b a).state _ (represents_step q width b (history_of (view b)) (sound_represents q b small e) a kind).represented

-- What a table shows after a call that no test stops is the update of what it showed: the definition of the bytes says what it seems to say.
pub shows_update : (q : ℕ) → Width q → (b : List ℕ) → AllBytes b → refusal (table_tests q b) ≡ 0 → (a : Call) → OfKind q a → stopped_at q b a ≡ 0 → view (table_step q b a).state ≡ updated (view b) a
shows_update q width b small e a kind z =
    let f = table_step_lem q b a in
    ⊎_elim shown (λ r. ap view (f.refused r) ∙ sym (rejected_same (view b) a (rw (f.result z) at r))) (same? (table_step q b a).result.number 0)
  where
    shown : (table_step q b a).result.number ≡ 0 → view (table_step q b a).state ≡ updated (view b) a
    shown n =
        let h = history_of (view b) in
        let k = sound_represents q b small e in
        let s = represents_step q width b h k a kind in
        let g = history_step_lem h a in
        let accepted : (history_step h a).result.number ≡ 0 = rw s.result at n in
        s.represented.shows ∙ ap view_of (g.accepted accepted) ∙ applied_view h k.valid a (g.passed accepted) ∙ ap (λ v. updated v a) (sym k.shows)
