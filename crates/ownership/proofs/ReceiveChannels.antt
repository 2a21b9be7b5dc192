-- Where at most eight links lead into a node, as in each narrow table, no open answers 11 where the receive channels of its target are all armed, and no call where
-- those of all nodes are.
-- Assumes nothing.
use mathlib.Core.Path.{◌≡◌, refl, ap, sym, ◌∙◌}
use mathlib.Core.Logic.{⊎_elim, ◌≢◌}
use mathlib.Core.Bool.{Bool, true, false}
use mathlib.Core.List.{List}
use Prim.Native.Nat.{ℕ, ◌≤◌, ◌<◌}
use native.Mathlib.Omega.{arith}
use Rattle.common.specs.Tests.{refusal}
use Rattle.common.proofs.Tests.{same?, avoids, avoiding, never_answered}
use lib.ListN.{length}
use Rattle.cube.specs.Cube.{largest_dimension, port_count, channels, NodeOf}
use Rattle.layout.specs.Layout.{length_of}
use Rattle.layout.proofs.Folds.{fold_none}
use Rattle.ownership.proofs.BothKinds.{wrong_length}
use Rattle.paths.specs.Send.{Outcome, acknowledged, route_rejected, receive_rejected}
use Rattle.paths.proofs.Send.{send_says}
use Rattle.table.specs.View.{View, view, receive, shape_of}
use Rattle.soundness.specs.Sound.{Sound}
use Rattle.soundness.specs.TableTests.{table_tests}
use Rattle.answers.specs.SendOnTable.{free_in}
use Rattle.ownership.specs.Calls.{Call, making, blocking, unblocking, opening, closing, tracing, arming, disarming, opening_all, booking, judging, folding, opening_of, answered, call_tests, result_of, no_job, After}
use Rattle.ownership.specs.InTurn.{Job, single_open}
use Rattle.ownership.specs.Sends.{Send, sends_in}
use Rattle.ownership.specs.TableFacts.{facts_with, opened, job_in}
use Rattle.paths.specs.CubeNetwork.{ports}
use Rattle.ownership.specs.History.{History, shape_on, armed_on, facts_on_with, with_opened, opened_on, job_on}
use Rattle.ownership.specs.Invariant.{Valid}
use Rattle.ownership.specs.HistoryView.{view_of}
use Rattle.ownership.specs.FromTable.{history_of}
use Rattle.ownership.specs.OnTable.{facts_of, lent_tests, stopped_at, table_step}
use Rattle.ownership.specs.AllArmed.{FewLinks, AllArmed, CubeArmed}
use Rattle.ownership.proofs.Steps.{StepSays, step_says, table_step_lem}
use Rattle.ownership.proofs.InTurn.{turn_number}
use Rattle.ownership.proofs.CircuitValid.{valid_sound}
use Rattle.ownership.proofs.ValidAfter.{open_valid}
use Rattle.ownership.proofs.Applied.{open_same, job_same}
use Rattle.ownership.proofs.HistoryOf.{shows_same, table_valid}
use Rattle.ownership.proofs.FromTable.{eight}
use Rattle.ownership.specs.Allowed.{Allowed}
use Rattle.ownership.proofs.Allowed.{allowed}
use Rattle.ownership.proofs.Stops.{none_stops, none_stops_lent, pass_tests}
use Rattle.ownership.proofs.LinksInto.{unfolded_few, send_receives}
use Rattle.ownership.proofs.ArmedBooks.{judging_otherwise}

-- no test of an open has the number 11
open_tests : (q : ℕ) (b : List ℕ) (s c t y v : ℕ) → stopped_at q b (opening s c t y v) ≢ 11
unfolding stopped_at lent_tests table_tests call_tests avoids
open_tests q b s c t y v = never_answered 11 _ (avoiding 11 _ refl) (λ z. omega arith)

-- and none of another call but judging, which does not answer it where the receive channels of all nodes of the cube are armed
stopped_otherwise : (q : ℕ) (b : List ℕ) → FewLinks (view b) → CubeArmed b → (a : Call) → stopped_at q b a ≢ 11
unfolding stopped_at lent_tests table_tests call_tests avoids
stopped_otherwise q b few armed (making D) = never_answered 11 _ (avoiding 11 _ refl) (λ z. omega arith)
stopped_otherwise q b few armed (blocking n p) = never_answered 11 _ (avoiding 11 _ refl) (λ z. omega arith)
stopped_otherwise q b few armed (unblocking n p) = never_answered 11 _ (avoiding 11 _ refl) (λ z. omega arith)
stopped_otherwise q b few armed (opening s c t y v) = open_tests q b s c t y v
stopped_otherwise q b few armed (closing s c) = never_answered 11 _ (avoiding 11 _ refl) (λ z. omega arith)
stopped_otherwise q b few armed (tracing s c buffer) = never_answered 11 _ (avoiding 11 _ refl) (λ z. omega arith)
stopped_otherwise q b few armed (arming n k) = never_answered 11 _ (avoiding 11 _ refl) (λ z. omega arith)
stopped_otherwise q b few armed (disarming n k) = never_answered 11 _ (avoiding 11 _ refl) (λ z. omega arith)
stopped_otherwise q b few armed (opening_all sends) = never_answered 11 _ (avoiding 11 _ refl) (λ z. omega arith)
stopped_otherwise q b few armed (booking ports index) = never_answered 11 _ (avoiding 11 _ refl) (λ z. omega arith)
stopped_otherwise q b few armed (folding mask) = never_answered 11 _ (avoiding 11 _ refl) (λ z. omega arith)
stopped_otherwise q b few armed (judging ports index circuits hops) = judging_otherwise q b few armed ports index circuits hops

-- the outcome of which an open answers 11
rejected : (helps : Bool) (o : Outcome) (n : ℕ) → (answered helps o n).number ≡ 11 → o ≡ receive_rejected
unfolding answered
rejected helps (acknowledged w k) n e = absurd (omega (arith, e))
rejected true route_rejected n e = absurd (omega (arith, e))
rejected false route_rejected n e = absurd (omega (arith, e))
rejected helps receive_rejected n e = refl

-- so an open that no test stops does not answer it where the receive channels of its target are all armed, on a table
sent_otherwise : (w : View) → Sound w → w.dimension ≤ largest_dimension → FewLinks w → (s c t y v : ℕ) → ((k : ℕ) → k < channels → w.armed t k ≡ true) → Allowed (facts_of w) (opening s c t y v)
    → (result_of (facts_of w) (opening s c t y v)).number ≢ 11
unfolding Allowed facts_of result_of
sent_otherwise w sound most few s c t y v armed r e =
    send_receives w sound most t few armed s y v _ _ (send_says (shape_of w) (free_in w) (receive w t) s v t y most r.0 r.1) (rejected _ _ _ e)

open_otherwise : (q : ℕ) (b : List ℕ) → FewLinks (view b) → (s c t y v : ℕ) → AllArmed b t → stopped_at q b (opening s c t y v) ≡ 0
    → (table_step q b (opening s c t y v)).result.number ≢ 11
unfolding view
open_otherwise q b few s c t y v armed z e =
    let p = pass_tests q b (none_stops_lent q b (opening s c t y v) refl z) in
    sent_otherwise (view b) p.3 p.2 few s c t y v armed (allowed (facts_of (view b)) (opening s c t y v) (none_stops q b (opening s c t y v) z)) (rw ((table_step_lem q b (opening s c t y v)).result z) at e)

-- and in a history with the receive channels of all nodes armed and at most eight links into one, which each send of a job keeps so
record EveryArmed (h : History) : Type 0 where
  valid : Valid h
  few : length (ports (shape_on h)) ≤ channels
  armed : (n k : ℕ) → NodeOf h.dimension n → k < channels → armed_on h n k ≡ true

added_armed : (h : History) → EveryArmed h → (s c t : ℕ) (o : Outcome) → Valid (with_opened h s c t o) → EveryArmed (with_opened h s c t o)
unfolding with_opened armed_on
added_armed h every s c t (acknowledged w k) valid = record { valid = valid; few = every.few; armed = every.armed }
added_armed h every s c t route_rejected valid = every
added_armed h every s c t receive_rejected valid = every

module _ (h : History) (x : Send) (every : EveryArmed h) where
  says : StepSays h (opened_on h x) (facts_on_with no_job h) (refusal (call_tests (facts_on_with no_job h) (opening_of x))) (opening_of x) (single_open (facts_on_with no_job) opened_on h x)
  says = step_says h (opened_on h x) (facts_on_with no_job h) _ (opening_of x)

  send_armed : (single_open (facts_on_with no_job) opened_on h x).result.number ≡ 0 → EveryArmed (single_open (facts_on_with no_job) opened_on h x).state
  send_armed e = rw (says.accepted e) (added_armed h every _ _ _ _ (rw (says.accepted e) at (open_valid h x every.valid e)))

  send_otherwise : (single_open (facts_on_with no_job) opened_on h x).result.number ≢ 11
  unfolding Allowed facts_of call_tests result_of view_of armed_on avoids
  send_otherwise e =
      let v = view_of h in
      let n = refusal (call_tests (facts_with no_job v) (opening_of x)) in
      let shown = step_says v (opened v x) (facts_with no_job v) n (opening_of x) in
      let eleven : (single_open (facts_with no_job) opened v x).result.number ≡ 11 = ap (λ (y : After View). y.result.number) (open_same h x every.valid) ∙ e in
      ⊎_elim
      (λ z.
      let may = allowed (facts_with no_job v) (opening_of x) z in
      sent_otherwise v (valid_sound h every.valid) every.valid.most (λ m. every.few) x.source x.channel x.target x.type x.vector (λ k l. every.armed x.target k may.1 l) may (rw (shown.result z) at eleven))
      (λ f. never_answered 11 (call_tests (facts_with no_job v) (opening_of x)) (avoiding 11 _ refl) (λ q. omega arith) (rw (shown.stopped f) at eleven)) (same? n 0)

job_otherwise : (h : History) → EveryArmed h → (xs : List Send) → (job_on h xs).result.number ≢ 11
unfolding job_on
job_otherwise h every xs = turn_number (single_open (facts_on_with no_job) opened_on) EveryArmed send_armed (λ n. n ≢ 11) (λ z. omega arith) send_otherwise xs h every

table_armed : (b : List ℕ) → (few : length (ports (shape_of (view b))) ≤ channels) → CubeArmed b → view b ≡ view_of (history_of (view b)) → Valid (history_of (view b)) → EveryArmed (history_of (view b))
unfolding history_of view_of view
table_armed b few armed shows valid = record { valid = valid; few = few; armed = λ n k i l. sym (ap (λ (v : View). v.armed n k) shows) ∙ armed n i k l }

-- a call whose tests do not answer 11 answers another number where one of them stops it
never_stopped : (q : ℕ) (b : List ℕ) (a : Call) → stopped_at q b a ≢ 11 → (stopped_at q b a ≡ 0 → (table_step q b a).result.number ≢ 11) → (table_step q b a).result.number ≢ 11
never_stopped q b a f h e = ⊎_elim (λ z. h z e) (λ z. f (rw ((table_step_lem q b a).stopped z) at e)) (same? (stopped_at q b a) 0)

-- Where at most eight links lead into a node, no open answers 11 where the receive channels of its target are all armed, whatever else the bytes of the table are.
pub never_full : (q : ℕ) (b : List ℕ) → FewLinks (view b) → (s c t y v : ℕ) → AllArmed b t → (table_step q b (opening s c t y v)).result.number ≢ 11
never_full q b few s c t y v armed = never_stopped q b (opening s c t y v) (open_tests q b s c t y v) (open_otherwise q b few s c t y v armed)

-- Where the receive channels of all nodes of the cube are armed, no call that no test stops answers 11,
passed_otherwise : (q : ℕ) (b : List ℕ) → FewLinks (view b) → CubeArmed b → (a : Call) → stopped_at q b a ≡ 0 → (table_step q b a).result.number ≢ 11
unfolding Allowed facts_of view result_of
passed_otherwise q b few armed (making D) z e = omega (arith, rw ((table_step_lem q b (making D)).result z) at e)
passed_otherwise q b few armed (blocking n p) z e = omega (arith, rw ((table_step_lem q b (blocking n p)).result z) at e)
passed_otherwise q b few armed (unblocking n p) z e = omega (arith, rw ((table_step_lem q b (unblocking n p)).result z) at e)
passed_otherwise q b few armed (opening s c t y v) z e =
    let r = allowed (facts_of (view b)) (opening s c t y v) (none_stops q b (opening s c t y v) z) in
    open_otherwise q b few s c t y v (armed t r.1) z e
passed_otherwise q b few armed (closing s c) z e = omega (arith, rw ((table_step_lem q b (closing s c)).result z) at e)
passed_otherwise q b few armed (tracing s c buffer) z e = omega (arith, rw ((table_step_lem q b (tracing s c buffer)).result z) at e)
passed_otherwise q b few armed (arming n k) z e = omega (arith, rw ((table_step_lem q b (arming n k)).result z) at e)
passed_otherwise q b few armed (disarming n k) z e = omega (arith, rw ((table_step_lem q b (disarming n k)).result z) at e)
passed_otherwise q b few armed (judging ports index circuits hops) z e = omega (arith, rw ((table_step_lem q b (judging ports index circuits hops)).result z) at e)
passed_otherwise q b few armed (folding mask) z e = omega (arith, rw ((table_step_lem q b (folding mask)).result z) at e)
passed_otherwise q b few armed (booking ports index) z e = omega (arith, rw ((table_step_lem q b (booking ports index)).result z) at e)
passed_otherwise q b few armed (opening_all sends) z e =
    let p = pass_tests q b (none_stops_lent q b (opening_all sends) refl z) in
    let h = history_of (view b) in
    let shows = shows_same (view b) p.3 p.2 (eight b) in
    let valid = table_valid (view b) p.3 p.2 (eight b) p.1 in
    let eleven : (job_in (view b) (sends_in sends)).result.number ≡ 11 = rw ((table_step_lem q b (opening_all sends)).result z) at e in
    job_otherwise h (table_armed b (few p.2) armed shows valid) (sends_in sends) (sym (ap (λ (j : Job View). j.result.number) (ap (λ v. job_in v (sends_in sends)) shows ∙ job_same h valid (sends_in sends))) ∙ eleven)

-- and so no call at all, whatever else the bytes of the table are.
pub armed_never_full : (q : ℕ) (b : List ℕ) → FewLinks (view b) → CubeArmed b → (a : Call) → (table_step q b a).result.number ≢ 11
armed_never_full q b few armed a = never_stopped q b a (stopped_otherwise q b few armed a) (passed_otherwise q b few armed a)

-- A narrow table has no partner links, so no open on it does, and no call.
narrow_few : (b : List ℕ) → length b ≡ length_of port_count → FewLinks (view b)
unfolding view
narrow_few b long = unfolded_few (view b) (fold_none b long)

pub narrow_never_full : (b : List ℕ) (s c t y v : ℕ) → AllArmed b t → (table_step port_count b (opening s c t y v)).result.number ≢ 11
narrow_never_full b s c t y v armed =
    ⊎_elim (λ long. never_full port_count b (narrow_few b long) s c t y v armed) (λ other e. omega (arith, rw (wrong_length port_count b other (opening s c t y v)) at e)) (same? (length b) (length_of port_count))

pub narrow_armed_never_full : (b : List ℕ) → CubeArmed b → (a : Call) → (table_step port_count b a).result.number ≢ 11
narrow_armed_never_full b armed a =
    ⊎_elim (λ long. armed_never_full port_count b (narrow_few b long) armed a) (λ other e. omega (arith, rw (wrong_length port_count b other a) at e)) (same? (length b) (length_of port_count))
