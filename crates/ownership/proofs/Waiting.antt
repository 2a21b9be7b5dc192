-- What closing circuits does for a send that was route rejected. Promises 10: answered 22 it stays so until a link is unblocked or the table is made anew.
-- Promises 9: answered 10 it is acknowledged once all circuits are closed and a channel of the target is armed.
-- Assumes nothing.
use mathlib.Core.Path.{◌≡◌, refl, ap, sym, ◌∙◌}
use mathlib.Core.Logic.{◌⊎◌, inl, inr, ⊎_elim, ◌≢◌}
use mathlib.Core.Bool.{Bool, true, false, cond, ◌&&◌}
use mathlib.Core.List.{List, [], ◌∷◌, map}
use Prim.Native.Nat.{ℕ, ◌<◌}
use native.Mathlib.Omega.{arith}
use lib.Dec.{eqb}
use borrow.Author.Tests.{eqb-true, not-false}
use Rattle.common.specs.Tests.{refusal}
use Rattle.common.specs.Lists.{any}
use Rattle.common.proofs.Tests.{is_false, same?, avoids, avoiding, never_answered, and, clash}
use Rattle.common.proofs.Lists.{any_some}
use Rattle.cube.specs.Cube.{circuit_of, source_of, next, channels}
use Rattle.paths.specs.Network.{Path}
use Rattle.paths.specs.Send.{Outcome, acknowledged, route_rejected, receive_rejected}
use Rattle.paths.specs.Waiting.{AllEnabled, SomePathEnabled, EveryPathBlocked, CrossesBlocked}
use Rattle.paths.specs.CubeNetwork.{attempts, ports}
use Rattle.paths.proofs.Words.{free_link, free_path_links}
use Rattle.table.specs.View.{View, view, net, shape_of, held_in, held_by, set_armed, without_circuit, available, set_at, set_enabled, set_owner, set_receiver}
use Rattle.layout.specs.Resources.{Width}
use Rattle.table.specs.Encode.{AllBytes}
use Rattle.soundness.specs.TableTests.{table_tests}
use Rattle.answers.specs.SendOnTable.{state_in, free_in, hold_links, view_after_send, send_in}
use Rattle.answers.specs.SendSays.{SomeRoute, CouldRoute, BlockedRoutes, Available}
use Rattle.circuit_path.specs.OpenCircuit.{is_open_in}
use Rattle.book.specs.BookOf.{open_numbers}
use Rattle.ownership.specs.Calls.{Call, OfKind, opening, opening_of, call_tests, no_job}
use Rattle.ownership.specs.InTurn.{single_open, after_job}
use Rattle.ownership.specs.Sends.{Send, sends_in}
use Rattle.ownership.specs.Update.{updated}
use Rattle.ownership.specs.TableFacts.{open_in, taken_in, facts_with, opened, job_in}
use Rattle.ownership.specs.OnTable.{facts_of, lent_tests, stopped_at, table_step}
use Rattle.ownership.specs.Agrees.{table_after, after_calls}
use Rattle.ownership.specs.Closing.{Each, no_call, call_more, ClosesOrArms, closes, arms, RepairsNothing, a_block, an_open, a_close, a_trace, an_arming, a_disarming, a_job, a_book, a_judging, NoLinkHeld}
use Rattle.ownership.specs.Allowed.{Allowed}
use Rattle.ownership.proofs.Allowed.{allowed, allowed_passes}
use Rattle.ownership.proofs.Stops.{none_stops, none_stops_lent, pass_tests, stopped_is}
use Rattle.ownership.proofs.Steps.{table_step_lem, step_says}
use Rattle.ownership.proofs.InTurn.{after_keeps}
use Rattle.ownership.proofs.OnSound.{open_answers}
use Rattle.ownership.proofs.Agreement.{represents_step}
use Rattle.ownership.proofs.FromTable.{sound_represents, keeps_sound, shows_update}
use Rattle.ownership.proofs.Sameness.{held_same, taken_same}
use Rattle.ownership.specs.FromTable.{circuit_at, history_of}
use Rattle.ownership.specs.History.{net_on, holds_link, holds_receive, held_on, taken_on}

-- two tables of one cube with the same links enabled
record SameEnabled (v w : View) : Type 0 where
  dimension : v.dimension ≡ w.dimension
  fold : v.fold ≡ w.fold
  enabled : v.enabled ≡ w.enabled

-- a call that closes or arms leaves both as they were,
updated_same : (v : View) (a : Call) → ClosesOrArms a → SameEnabled (updated v a) v
unfolding updated without_circuit set_armed
updated_same v _ closes = record { dimension = refl; fold = refl; enabled = refl }
updated_same v _ arms = record { dimension = refl; fold = refl; enabled = refl }

-- and is one on tables of either kind
closing_kind : (q : ℕ) (a : Call) → ClosesOrArms a → OfKind q a
closing_kind q _ closes = tt
closing_kind q _ arms = tt

same_self : (v : View) → SameEnabled v v
same_self v = record { dimension = refl; fold = refl; enabled = refl }

same_chain : (u v w : View) → SameEnabled u v → SameEnabled v w → SameEnabled u w
same_chain u v w x y = record { dimension = x.dimension ∙ y.dimension; fold = x.fold ∙ y.fold; enabled = x.enabled ∙ y.enabled }

-- What calls leave of a table: it passes its tests again, and what it shows is related to what it showed, where the update of each call is.
pub record Kept (q : ℕ) (R : View → View → Type 0) (b after : List ℕ) : Type 0 where
  pub small : AllBytes after
  pub passes : refusal (table_tests q after) ≡ 0
  pub related : R (view after) (view b)

module _ (q : ℕ) (width : Width q) (R : View → View → Type 0) (self : (v : View) → R v v) (chain : (u v w : View) → R u v → R v w → R u w) {P : Call → Type 0} (kinds : (a : Call) → P a → OfKind q a)
    (updates : (v : View) (a : Call) → P a → R (updated v a) v) where
  step_kept : (b : List ℕ) → AllBytes b → refusal (table_tests q b) ≡ 0 → (a : Call) → P a → Kept q R b (table_step q b a).state
  step_kept b small e a k =
      record {
        small = (represents_step q width b _ (sound_represents q b small e) a (kinds a k)).represented.bytes.small;
        passes = keeps_sound q width b small e a (kinds a k);
        related = ⊎_elim (λ z. rw (shows_update q width b small e a (kinds a k) z) (updates (view b) a k)) (λ f. rw ((table_step_lem q b a).stopped f) (self (view b))) (same? (stopped_at q b a) 0);
      }

  pub calls_kept : (b : List ℕ) → AllBytes b → refusal (table_tests q b) ≡ 0 → {calls : List Call} → Each P calls → Kept q R b (table_after q b calls)
  unfolding after_calls
  calls_kept b small e no_call = record { small = small; passes = e; related = self (view b) }
  calls_kept b small e (call_more {a} k more) =
      let x = step_kept b small e a k in
      let y = calls_kept (table_step q b a).state x.small x.passes more in
      record { small = y.small; passes = y.passes; related = chain _ _ _ y.related x.related }

-- no test has the number 10 or 22, so an open that answers one of them was sent
other_numbers : (q : ℕ) (m : ℕ) → (m ≡ 10) ⊎ (m ≡ 22) → (b : List ℕ) (s c t y v : ℕ) → stopped_at q b (opening s c t y v) ≢ m
unfolding stopped_at lent_tests table_tests call_tests avoids
other_numbers q m (inl e) b s c t y v = rw e (never_answered 10 _ (avoiding 10 _ refl) (λ z. omega arith))
other_numbers q m (inr e) b s c t y v = rw e (never_answered 22 _ (avoiding 22 _ refl) (λ z. omega arith))

module _ (q s c t y v : ℕ) where
  abbrev pub number_on : List ℕ → ℕ
  number_on b = (table_step q b (opening s c t y v)).result.number

  was_sent : (b : List ℕ) (m : ℕ) → (m ≡ 10) ⊎ (m ≡ 22) → number_on b ≡ m → stopped_at q b (opening s c t y v) ≡ 0
  was_sent b m k e =
      ⊎_elim (λ z. z) (λ f. absurd (other_numbers q m k b s c t y v (sym (ap (λ x. x.result.number) ((table_step_lem q b (opening s c t y v)).stopped f)) ∙ e)))
      (same? (stopped_at q b (opening s c t y v)) 0)

module _ (q : ℕ) (width : Width q) (b : List ℕ) (s c t y v : ℕ) where
  -- where nothing is held, every enabled link is free, and no send channel has an open circuit
  unheld_free : (w : View) → NoLinkHeld w → (n p : ℕ) → w.enabled n p ≡ true → free_in w n p ≡ true
  unfolding free_in state_in
  unheld_free w unheld n p e = (free_link _ _).1 (e, unheld n p)

  unheld_closed : (w : View) → NoLinkHeld w → open_in w s c ≡ false
  unfolding open_in is_open_in held_in
  unheld_closed w unheld =
      is_false _ (λ e.
      let x = any_some (held_by w (circuit_of s c) (source_of (circuit_of s c))) (ports (shape_of w)) e in
      let o : ℕ = w.owner (source_of (circuit_of s c)) x.0 in
      let nobody : o ≡ 0 = eqb-true o 0 (not-false _ (unheld (source_of (circuit_of s c)) x.0)) in
      let holder : o ≡ circuit_of s c = eqb-true o (circuit_of s c) x.2 in
      omega (arith, nobody, holder))

  unheld_route : {w : View} → NoLinkHeld w → SameEnabled w (view b) → CouldRoute (view b) s t (attempts (shape_of (view b)) y v) → SomeRoute w s t (attempts (shape_of w) y v)
  unfolding SomePathEnabled AllEnabled
  unheld_route {w} unheld same x =
      let could : CouldRoute w s t (attempts (shape_of w) y v) = rw (same.dimension, same.fold, same.enabled) x in
      (could.0, could.1, (could.2.0, could.2.1, (free_path_links (net w) (free_in w) s could.2.0).1 (λ l m. unheld_free w unheld l.0 l.1 (could.2.2 l m))))

  -- once no link is held and a channel of the target is available, a send that was answered 10 is acknowledged
  pub closed_acknowledges : AllBytes b → {calls : List Call} → Each ClosesOrArms calls → number_on q s c t y v b ≡ 10 → NoLinkHeld (view (table_after q b calls)) → Available (view (table_after q b calls)) t
      → number_on q s c t y v (table_after q b calls) ≡ 0
  unfolding Allowed facts_of
  closed_acknowledges small {calls} all e unheld there =
      let z = was_sent q s c t y v b 10 (inl refl) e in
      let kept = calls_kept q width SameEnabled same_self same_chain (closing_kind q) updated_same b small (none_stops_lent q b (opening s c t y v) refl z) all in
      let p = pass_tests q (table_after q b calls) kept.passes in
      let r = allowed (facts_of (view b)) (opening s c t y v) (none_stops q b (opening s c t y v) z) in
      let D = kept.related.dimension in
      let passes : stopped_at q (table_after q b calls) (opening s c t y v) ≡ 0 =
      stopped_is q (table_after q b calls) p.0 p.1 p.2 p.3 (opening s c t y v)
      ∙ allowed_passes (facts_of (view (table_after q b calls))) (opening s c t y v) (rw D r.0, rw D r.1, r.2, r.3, (λ n l. r.4 n (rw D at l)), unheld_closed (view (table_after q b calls)) unheld, r.6) in
      let x = (open_answers q width b s c t y v z).rejected_route.0 e in
      (open_answers q width (table_after q b calls) s c t y v passes).exactly.1 (unheld_route unheld kept.related x.1, there)

-- A table that passes its tests and in which no circuit is open holds no link and no receive channel,
module _ (q : ℕ) (b : List ℕ) (small : AllBytes b) (e : refusal (table_tests q b) ≡ 0) (none : open_numbers (view b) ≡ []) where
  none_listed : (history_of (view b)).circuits ≡ []
  unfolding history_of
  none_listed = ap (map (circuit_at (view b))) none

  pub closed_idle : NoLinkHeld (view b)
  unfolding held_on any
  closed_idle n p =
      ap (λ v. held_in v n p) (sound_represents q b small e).shows ∙ ap (λ (f : ℕ → ℕ → Bool). f n p) (held_same (history_of (view b)))
      ∙ ap (any (holds_link (net_on (history_of (view b))) n p)) none_listed

  none_taken : (n k : ℕ) → taken_in (view b) n k ≡ false
  unfolding taken_on any
  none_taken n k =
      ap (λ v. taken_in v n k) (sound_represents q b small e).shows ∙ ap (λ (f : ℕ → ℕ → Bool). f n k) (taken_same (history_of (view b)))
      ∙ ap (any (holds_receive n k)) none_listed

  -- and what is armed there can be taken.
  pub closed_available : (n k : ℕ) → k < channels → (view b).armed n k ≡ true → Available (view b) n
  unfolding available taken_in
  closed_available n k l armed = (k, l, and armed (not-false _ (none_taken n k)))

-- Promises 9: once all circuits are closed and a channel of the target is armed, a send that was answered 10 is acknowledged.
pub all_closed_acknowledges : (q : ℕ) → Width q → (b : List ℕ) (s c t y v : ℕ) → AllBytes b → {calls : List Call} → Each ClosesOrArms calls → number_on q s c t y v b ≡ 10
    → open_numbers (view (table_after q b calls)) ≡ [] → (k : ℕ) → k < channels → (view (table_after q b calls)).armed t k ≡ true
    → number_on q s c t y v (table_after q b calls) ≡ 0
all_closed_acknowledges q width b s c t y v small {calls} all e none k l armed =
    let z = was_sent q s c t y v b 10 (inl refl) e in
    let kept = calls_kept q width SameEnabled same_self same_chain (closing_kind q) updated_same b small (none_stops_lent q b (opening s c t y v) refl z) all in
    closed_acknowledges q width b s c t y v small all e (closed_idle q (table_after q b calls) kept.small kept.passes none)
    (closed_available q (table_after q b calls) kept.small kept.passes none t k l armed)

-- a table of the same cube in which no other link is enabled
record Fewer (w v : View) : Type 0 where
  dimension : w.dimension ≡ v.dimension
  fold : w.fold ≡ v.fold
  fewer : (n p : ℕ) → w.enabled n p ≡ true → v.enabled n p ≡ true

same_fewer : {w v : View} → SameEnabled w v → Fewer w v
same_fewer same = record { dimension = same.dimension; fold = same.fold; fewer = λ n p e. rw same.enabled at e }

hold_same : (v : View) (c n : ℕ) (w : Path) → SameEnabled (hold_links v c n w) v
unfolding hold_links set_owner
hold_same v c n [] = record { dimension = refl; fold = refl; enabled = refl }
hold_same v c n (p ∷ w) = let r = hold_same (set_owner v n p c) c (next n p) w in record { dimension = r.dimension; fold = r.fold; enabled = r.enabled }

sent_same : (v : View) (c s t : ℕ) (o : Outcome) → SameEnabled (view_after_send v c s t o) v
unfolding view_after_send set_receiver
sent_same v c s t (acknowledged w k) = let r = hold_same v c s w in record { dimension = r.dimension; fold = r.fold; enabled = r.enabled }
sent_same v c s t route_rejected = record { dimension = refl; fold = refl; enabled = refl }
sent_same v c s t receive_rejected = record { dimension = refl; fold = refl; enabled = refl }

not_off : (c x : Bool) → cond c false x ≡ true → x ≡ true
not_off true x e = absurd (clash e refl)
not_off false x e = e

fewer_chain : (u v w : View) → Fewer u v → Fewer v w → Fewer u w
fewer_chain u v w x y = record { dimension = x.dimension ∙ y.dimension; fold = x.fold ∙ y.fold; fewer = λ n p e. y.fewer n p (x.fewer n p e) }

fewer_self : (v : View) → Fewer v v
fewer_self v = record { dimension = refl; fold = refl; fewer = λ n p e. e }

-- each send of a job holds links and enables none
job_fewer : (v : View) (xs : List Send) → Fewer (after_job v (job_in v xs)) v
unfolding job_in
job_fewer v xs =
    after_keeps (single_open (facts_with no_job) opened) (λ w. Fewer w v)
    (λ w x f e.
    rw ((step_says w (opened w x) (facts_with no_job w) _ (opening_of x)).accepted e)
    (fewer_chain (opened w x) w v (same_fewer (sent_same w _ _ _ (send_in w x.source x.target x.type x.vector).outcome)) f)) xs v (fewer_self v)

updated_fewer : (v : View) (a : Call) → RepairsNothing a → Fewer (updated v a) v
unfolding updated without_circuit set_armed set_enabled set_at
updated_fewer v _ (a_block {n} {p}) = record { dimension = refl; fold = refl; fewer = λ m q e. not_off (eqb m n && eqb q p) _ e }
updated_fewer w _ (an_open {s} {c} {t} {y} {v}) = same_fewer (sent_same w (circuit_of s c) s t (send_in w s t y v).outcome)
updated_fewer v _ a_close = record { dimension = refl; fold = refl; fewer = λ m q e. e }
updated_fewer v _ a_trace = record { dimension = refl; fold = refl; fewer = λ m q e. e }
updated_fewer v _ an_arming = record { dimension = refl; fold = refl; fewer = λ m q e. e }
updated_fewer v _ a_disarming = record { dimension = refl; fold = refl; fewer = λ m q e. e }
updated_fewer v _ a_book = fewer_self v
updated_fewer v _ a_judging = fewer_self v
updated_fewer v _ (a_job {sends}) = job_fewer v (sends_in sends)

repair_kind : (q : ℕ) (a : Call) → RepairsNothing a → OfKind q a
repair_kind q _ a_block = tt
repair_kind q _ an_open = tt
repair_kind q _ a_close = tt
repair_kind q _ a_trace = tt
repair_kind q _ an_arming = tt
repair_kind q _ a_disarming = tt
repair_kind q _ a_book = tt
repair_kind q _ a_judging = tt
repair_kind q _ a_job = tt

-- Promises 10: answered 22, a send stays so, or is stopped by an earlier test, after any list of calls
-- without an unblocking, a making and a setting of the fold mask.
pub blocked_until_repair : (q : ℕ) → Width q → (b : List ℕ) (s c t y v : ℕ) → AllBytes b → {calls : List Call} → Each RepairsNothing calls → number_on q s c t y v b ≡ 22
    → (stopped_at q (table_after q b calls) (opening s c t y v) ≢ 0) ⊎ (number_on q s c t y v (table_after q b calls) ≡ 22)
unfolding EveryPathBlocked CrossesBlocked
blocked_until_repair q width b s c t y v small {calls} all e =
    let z = was_sent q s c t y v b 22 (inr refl) e in
    let left = calls_kept q width Fewer fewer_self fewer_chain (repair_kind q) updated_fewer b small (none_stops_lent q b (opening s c t y v) refl z) all in
    let x = (open_answers q width b s c t y v z).rejected_blocked.0 e in
    let still : BlockedRoutes (view (table_after q b calls)) s t (attempts (shape_of (view (table_after q b calls))) y v) =
    rw (left.related.dimension, left.related.fold) (λ a m w i. let r = x a m w i in (r.0, r.1, is_false _ (λ j. clash (left.related.fewer r.0.0 r.0.1 j) r.2))) in
    ⊎_elim (λ passes. inr ((open_answers q width (table_after q b calls) s c t y v passes).rejected_blocked.1 still)) inl (same? (stopped_at q (table_after q b calls) (opening s c t y v)) 0)
