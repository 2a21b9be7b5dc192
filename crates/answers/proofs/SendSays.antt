-- A send says what Promises 3 and 4 ask: for every routing type, on any table of a cube up to dimension 8.
-- Assumes nothing.
use mathlib.Core.Path.{◌≡◌, refl, ap, ◌∙◌, subst}
use mathlib.Core.Logic.{◌≢◌, ◌↔◌}
use mathlib.Core.Bool.{Bool, true, false, cond}
use mathlib.Core.List.{List}
use Prim.Native.Nat.{ℕ, ◌≤◌}
use native.Mathlib.Omega.{arith}
use Rattle.cube.specs.Cube.{largest_dimension, NodeOf}
use Rattle.common.proofs.Tests.{clash}
use Rattle.paths.specs.Network.{Path}
use Rattle.paths.specs.Send.{lowest_available, none_available, Outcome, acknowledged, route_rejected, receive_rejected, Acknowledged, Attempt, SendResult}
use Rattle.paths.specs.Sentences.{AttemptsSay}
use Rattle.paths.specs.CubeNetwork.{attempts, send}
use Rattle.paths.proofs.Attempts.{Route, not_route_rejected, acknowledged_route, route_acknowledged, receive_rejected_route}
use Rattle.paths.proofs.Send.{send_says, send_bounded, send_folded}
use Rattle.layout.specs.Layout.{length_of, dimension_at}
use Rattle.table.specs.View.{View, view, receive, available, net, shape_of}
use Rattle.table.proofs.CubeRows.{row_of}
use Rattle.table.proofs.Receives.{chosen, none_chosen}
use Rattle.paths.proofs.Words.{free_link}
use Rattle.paths.proofs.Waiting.{waiting_exactly, blocked_exactly, found_waits}
use Rattle.answers.specs.SendOnTable.{state_in, free_in, answer_on_bytes, waiting_helps, answer_of_outcome, send_in}
use Rattle.answers.specs.SendAnswer.{bytes_after_send, send_answer, sent_on_bytes, MaySendIn}
use Rattle.answers.specs.SendSays.{SomeRoute, CouldRoute, BlockedRoutes, Available, Lowest, SendSays}
use Rattle.answers.proofs.SendAnswer.{sent_leaves, sent_bytes, sent_numbers, sent_scouts}
use Rattle.layout.specs.Resources.{Width, is_table, layout_laws}
use Rattle.answers.proofs.AfterSend.{Fits, view_after_send_lem, sent_fits, send_encoded_over}

-- what the choice of a receive channel says
module _ (v : View) (t : ℕ) where
  channel_lowest : (k : ℕ) → receive v t ≡ lowest_available k → Lowest v t k
  unfolding receive
  channel_lowest k e = let r = chosen (available v t) k e in record { small = r.0; is_available = r.1; first = r.2 }

  some_available : Available v t → receive v t ≢ none_available
  unfolding receive
  some_available a e = clash a.2 (none_chosen (available v t) e a.0 a.1)

-- Acknowledged is number 0; a route rejection, 10 or 22, is not.
not_zero : (helps : Bool) {x : ℕ} → x ≡ cond helps 10 22 → x ≢ 0
not_zero true e z = omega (arith, e, z)
not_zero false e z = omega (arith, e, z)

module _ (b : List ℕ) (c s t : ℕ) (helps : Bool) where
  acknowledged_number : (o : Outcome) (m x h k n : ℕ) (b' : List ℕ)
      → answer_on_bytes x h k n b' ≡ send_answer helps b c s t (record { outcome = o; scouts = m }) → Acknowledged o → x ≡ 0
  unfolding send_answer bytes_after_send answer_of_outcome Acknowledged
  acknowledged_number route_rejected m x h k n b' q z = elim z [ ]
  acknowledged_number receive_rejected m x h k n b' q z = elim z [ ]
  acknowledged_number (acknowledged w j) m x h k n b' q z = cc

  number_acknowledged : (o : Outcome) (m x h k n : ℕ) (b' : List ℕ)
      → answer_on_bytes x h k n b' ≡ send_answer helps b c s t (record { outcome = o; scouts = m }) → x ≡ 0 → (w : Path) × (o ≡ acknowledged w k)
  unfolding send_answer bytes_after_send answer_of_outcome
  number_acknowledged (acknowledged w j) m x h k n b' q z = let y : j ≡ k = cc in (w, ap (acknowledged w) y)
  number_acknowledged route_rejected m x h k n b' q z = let y : x ≡ cond helps 10 22 = cc in absurd (not_zero helps y z)
  number_acknowledged receive_rejected m x h k n b' q z = let y : x ≡ 11 = cc in absurd (omega arith)

-- Which rejection it is: 10 where no attempt has a free path and one could have, 22 where none could, 11 where one has a free path and no channel is there
-- to take.
module _ (b : List ℕ) (c s t : ℕ) (tried : List Attempt) (helps : Bool) (could : (helps ≡ true) ↔ CouldRoute (view b) s t tried) (blocked : (helps ≡ false) ↔ BlockedRoutes (view b) s t tried) where
  abbrev Said : Outcome → ℕ → Type 0
  Said o m = AttemptsSay (net (view b)) s t (free_in (view b)) (receive (view b) t) tried o m

  abbrev Rejections : ℕ → Type 0
  Rejections x =
      ((x ≡ 10) ↔ ((SomeRoute (view b) s t tried → ⊥) × CouldRoute (view b) s t tried)) × ((x ≡ 22) ↔ BlockedRoutes (view b) s t tried)
      × ((x ≡ 11) ↔ (SomeRoute (view b) s t tried × (Available (view b) t → ⊥)))

  -- a route rejection is 10 or 22
  route_rejections : (w : Bool) → helps ≡ w → (SomeRoute (view b) s t tried → ⊥) → {x : ℕ} → x ≡ cond w 10 22 → Rejections x
  route_rejections true e no_route y = (
    ((λ z. (no_route, could.0 e)), (λ f. y)),
    ((λ z. absurd (omega (arith, y, z))), (λ f. absurd (clash e (blocked.1 f)))),
    ((λ z. absurd (omega (arith, y, z))), (λ f. absurd (no_route f.0))),
  )
  route_rejections false e no_route y = (
    ((λ z. absurd (omega (arith, y, z))), (λ f. absurd (clash (could.1 f.1) e))),
    ((λ z. blocked.0 e), (λ f. y)),
    ((λ z. absurd (omega (arith, y, z))), (λ f. absurd (no_route f.0))),
  )

  rejections : (o : Outcome) (m x h k n : ℕ) (b' : List ℕ) → (o ≢ route_rejected → helps ≡ true)
      → answer_on_bytes x h k n b' ≡ send_answer helps b c s t (record { outcome = o; scouts = m }) → Said o m → Rejections x
  unfolding send_answer bytes_after_send answer_of_outcome
  rejections (acknowledged w j) m x h k n b' found q said =
      let y : x ≡ 0 = cc in
      let a = acknowledged_route (net (view b)) s t (free_in (view b)) (receive (view b) t) tried w j m said in
      let l = channel_lowest (view b) t j a.1 in
      let on = found (λ e. let z : ◌≡◌ {A = ℕ} 0 1 = cc in omega arith) in (
        ((λ z. absurd (omega (arith, y, z))), (λ f. absurd (f.0 a.0))),
        ((λ z. absurd (omega (arith, y, z))), (λ f. absurd (clash on (blocked.1 f)))),
        ((λ z. absurd (omega (arith, y, z))), (λ f. absurd (f.1 (j, l.small, l.is_available)))),
      )
  rejections route_rejected m x h k n b' found q said =
      let y : x ≡ cond helps 10 22 = cc in
      route_rejections helps refl (λ a. not_route_rejected (net (view b)) s t (free_in (view b)) (receive (view b) t) tried route_rejected m said a refl) y
  rejections receive_rejected m x h k n b' found q said =
      let y : x ≡ 11 = cc in
      let a = receive_rejected_route (net (view b)) s t (free_in (view b)) (receive (view b) t) tried m said in
      let on = found (λ e. let z : ◌≡◌ {A = ℕ} 0 1 = cc in omega arith) in (
        ((λ z. absurd (omega (arith, y, z))), (λ f. absurd (f.0 a.0))),
        ((λ z. absurd (omega (arith, y, z))), (λ f. absurd (clash on (blocked.1 f)))),
        ((λ z. (a.0, λ l. some_available (view b) t l a.1)), (λ f. y)),
      )

-- every free link is enabled
pub free_enabled : (v : View) (n p : ℕ) → free_in v n p ≡ true → v.enabled n p ≡ true
unfolding free_in state_in
free_enabled v n p e = ((free_link _ _).0 e).0

-- Searches 13: whether waiting helps
module _ (b : List ℕ) (s t type vector : ℕ) (fits : (shape_of (view b)).dimension ≤ largest_dimension) (source : NodeOf (shape_of (view b)).dimension s) (target : NodeOf (shape_of (view b)).dimension t) where
  pub could_route : (waiting_helps (view b) s t type vector ≡ true) ↔ CouldRoute (view b) s t (attempts (shape_of (view b)) type vector)
  unfolding waiting_helps
  could_route = waiting_exactly (shape_of (view b)) fits s t type vector source target (view b).enabled

  pub routes_blocked : (waiting_helps (view b) s t type vector ≡ false) ↔ BlockedRoutes (view b) s t (attempts (shape_of (view b)) type vector)
  unfolding waiting_helps
  routes_blocked = blocked_exactly (shape_of (view b)) fits s t type vector source target (view b).enabled

  found_helps : (send_in (view b) s t type vector).outcome ≢ route_rejected → waiting_helps (view b) s t type vector ≡ true
  unfolding waiting_helps
  found_helps = found_waits (shape_of (view b)) fits s t type vector source target (free_in (view b)) (view b).enabled (free_enabled (view b)) (receive (view b) t)

-- Promises 3, Promises 4: of any answer that the contract of `send::send` allows.
pub demand_2 : (q : ℕ) → Width q → (b : List ℕ) (s t c type vector : ℕ) → MaySendIn (length_of q) b s t c vector → (x h k n : ℕ) (b' : List ℕ)
    → answer_on_bytes x h k n b' ≡ sent_on_bytes b s t c type vector → SendSays q b s t c type vector x h k n b'
unfolding sent_on_bytes
demand_2 q width b s t c type vector may x h k n b' e =
    record {
      outcome = o;
      says = rw counted said;
      answer = sent_numbers b c s t helps o m e;
      shows = ap view same ∙ (unfold view in view_after_send_lem c may.small (shape_of (view b)) fits b (is_table (layout_laws q width) b may.bytes) (row_of b may.fits) s t may.source may.target o ports);
      written = λ small. same ∙ send_encoded_over width b (record { long = may.bytes; small = small }) c s t o may.fits may.small may.source may.target ports;
      exactly = (
        (λ z. let r = route z in (r.0, let l = channel_lowest (view b) t k r.1 in (k, l.small, l.is_available))),
        (λ y. acknowledged_number b c s t helps o m x h k n b' e
            (route_acknowledged (net (view b)) s t (free_in (view b)) (receive (view b) t) tried o m said y.0 (some_available (view b) t y.1))),
      );
      rejected_route = which.0;
      rejected_blocked = which.1;
      rejected_receive = which.2;
      lowest = λ z. channel_lowest (view b) t k (route z).1;
      unchanged = λ f. sent_leaves b c s t helps o m e f;
      bounded = λ z. rw counted (send_bounded (shape_of (view b)) (free_in (view b)) (receive (view b) t) s vector t type fits z);
      bounded_folded = rw counted (send_folded (shape_of (view b)) (free_in (view b)) (receive (view b) t) s vector t type fits);
    }
  where
    helps : Bool
    helps = waiting_helps (view b) s t type vector

    sent : SendResult
    sent = send type (shape_of (view b)) (free_in (view b)) (receive (view b) t) s vector t

    o : Outcome
    o = sent.outcome

    m : ℕ
    m = sent.scouts

    tried : List Attempt
    tried = attempts (shape_of (view b)) type vector

    counted : n ≡ m
    counted = sent_scouts b c s t helps o m e

    same : b' ≡ bytes_after_send b c s t o
    same = sent_bytes b c s t helps o m e

    ports : Fits (shape_of (view b)) o
    ports = unfold view in sent_fits (view b) s t type vector may.fits may.source may.target

    fits : (shape_of (view b)).dimension ≤ largest_dimension
    fits = unfold view in may.fits

    said : AttemptsSay (net (view b)) s t (free_in (view b)) (receive (view b) t) tried o m
    said = send_says (shape_of (view b)) (free_in (view b)) (receive (view b) t) s vector t type fits (unfold view in may.source) (unfold view in may.target)

    source : NodeOf (shape_of (view b)).dimension s
    source = unfold view in may.source

    target : NodeOf (shape_of (view b)).dimension t
    target = unfold view in may.target

    which : Rejections b c s t tried helps (could_route b s t type vector fits source target) (routes_blocked b s t type vector fits source target) x
    which =
        rejections b c s t tried helps (could_route b s t type vector fits source target) (routes_blocked b s t type vector fits source target) o m x h k n b'
        (found_helps b s t type vector fits source target) e said

    route : x ≡ 0 → Route (net (view b)) s t (free_in (view b)) (receive (view b) t) tried × (receive (view b) t ≡ lowest_available k)
    route z =
        let a = number_acknowledged b c s t helps o m x h k n b' e z in
        acknowledged_route (net (view b)) s t (free_in (view b)) (receive (view b) t) tried a.0 k m
        (subst (λ (u : Outcome). AttemptsSay (net (view b)) s t (free_in (view b)) (receive (view b) t) tried u m) a.1 said)
