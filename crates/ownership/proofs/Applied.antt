-- What a table that agrees with the history shows after a call that no test stops is the update of what it showed.
-- Assumes nothing.
use mathlib.Core.Path.{◌≡◌, refl, sym, ◌∙◌, ap, ap₂}
use mathlib.Core.Bool.{Bool, true, false, cond, not, ◌&&◌, ◌||◌, and-true}
use mathlib.Core.List.{List, [], ◌∷◌}
use Prim.Native.Nat.{ℕ}
use lib.Dec.{eqb}
use Rattle.common.specs.Lists.{keep}
use Rattle.cube.specs.Cube.{next, circuit_of}
use Rattle.paths.specs.Network.{Path, links, has_link}
use Rattle.paths.specs.Send.{Outcome, acknowledged, route_rejected, receive_rejected, SendResult}
use Rattle.paths.specs.CubeNetwork.{Shape, network, unfolded, is_link_of}
use Rattle.table.specs.View.{View, set_at, set_owner, set_receiver, set_enabled, set_armed, without_circuit, fresh}
use Rattle.table.specs.Folding.{set_fold}
use Rattle.ownership.specs.Sends.{Send, sends_in}
use Rattle.ownership.specs.Calls.{Call, making, blocking, unblocking, opening, closing, tracing, arming, disarming, opening_all, booking, judging, folding, opening_of, answered, call_tests, result_of, no_job}
use Rattle.ownership.specs.InTurn.{single_open, after_job}
use Rattle.ownership.specs.TableFacts.{facts_with, opened, job_in}
use Rattle.ownership.specs.OnTable.{facts_of}
use Rattle.ownership.specs.History.{Circuit, History, shape_on, net_on, holds_link, holds_receive, belongs, enabled_on, armed_on, stopped_on, send_on, facts_on, facts_on_with, with_fold, with_opened, opened_on, job_on, applied, new_history}
use Rattle.ownership.specs.Invariant.{Valid}
use Rattle.ownership.specs.HistoryView.{first_circuit, view_of}
use Rattle.answers.specs.SendOnTable.{hold_links, view_after_send}
use Rattle.ownership.specs.Update.{updated}
use Rattle.ownership.proofs.Circuits.{Once, number_drop}
use Rattle.ownership.proofs.Sameness.{send_same, waiting_same}
use Rattle.ownership.proofs.InTurn.{same_call, same_job, call_same, turn_same, after_same}
use Rattle.ownership.proofs.Stopped.{stopped_same}
use Rattle.ownership.proofs.ValidAfter.{open_valid}
use Rattle.ownership.proofs.CircuitValid.{links_once, receives_once}
use Rattle.ownership.proofs.Allowed.{unblock_facts, close_facts}
use Rattle.ownership.proofs.Enabled.{block_enabled, unblock_enabled, fold_enabled}
use Rattle.ownership.proofs.Ports.{same_links}
use Rattle.ownership.proofs.Armed.{arm_armed, disarm_armed, close_armed}

-- a made table shows the history that a making begins
pub made_view : (D : ℕ) → view_of (new_history D) ≡ fresh D
unfolding view_of fresh first_circuit enabled_on armed_on has_link
made_view D = λ i.
    record { dimension = D; fold = 0; enabled = λ n p. and-true (is_link_of (unfolded D) n p) i; owner = λ n p. 0; receiver = λ n k. 0; armed = λ n k. false }

-- the view once the links of a path are held
pub held_path : (v : View) (S : Shape) (c n : ℕ) (w : Path)
    → hold_links v c n w
    ≡ record {
      dimension = v.dimension;
      fold = v.fold;
      enabled = v.enabled;
      owner = λ m q. cond (has_link (links (network S) n w) m q) c (v.owner m q);
      receiver = v.receiver;
      armed = v.armed;
    }
unfolding hold_links links has_link network set_owner set_at
held_path v S c n [] = refl
held_path v S c n (p ∷ w) =
    held_path (set_owner v n p c) S c (next n p) w
    ∙ (λ i.
    record {
      dimension = v.dimension;
      fold = v.fold;
      enabled = v.enabled;
      owner = λ m q. joined (eqb m n && eqb q p) (has_link (links (network S) (next n p) w) m q) (v.owner m q) i;
      receiver = v.receiver;
      armed = v.armed;
    })
  where
    joined : (a b : Bool) (x : ℕ) → cond b c (cond a c x) ≡ cond (a || b) c x
    joined true true x = refl
    joined true false x = refl
    joined false b x = refl

module _ (h : History) where
  added_view : (s c t : ℕ) (o : Outcome) → view_of (with_opened h s c t o) ≡ view_after_send (view_of h) (circuit_of s c) s t o
  unfolding with_opened view_after_send view_of first_circuit holds_link holds_receive enabled_on armed_on set_receiver set_at
  added_view s c t (acknowledged w k) = sym (ap (λ (v : View). set_receiver v t k (circuit_of s c)) (held_path (view_of h) (shape_on h) (circuit_of s c) s w))
  added_view s c t route_rejected = refl
  added_view s c t receive_rejected = refl

  opened_view : (x : Send) → view_of (opened_on h x) ≡ opened (view_of h) x
  opened_view x =
      added_view x.source x.channel x.target (send_on h x.source x.target x.type x.vector).outcome
      ∙ ap (λ (y : SendResult). view_after_send (view_of h) (circuit_of x.source x.channel) x.source x.target y.outcome) (sym (send_same h x.source x.target x.type x.vector))

-- A single open and a job come to the same on a table that agrees with the history, and leave what the history then says.
pub open_same : (h : History) (x : Send) → Valid h → single_open (facts_with no_job) opened (view_of h) x ≡ same_call view_of (single_open (facts_on_with no_job) opened_on h x)
unfolding result_of stopped_on call_tests facts_of facts_on
open_same h x valid =
    rw (sym (opened_view h x))
    (call_same view_of h (opened_on h x) (facts_with no_job (view_of h)) (facts_on_with no_job h) (opening_of x) (stopped_same h valid (opening_of x))
    (ap₂ (λ (helps : Bool) (y : SendResult). answered helps y.outcome y.scouts) (waiting_same h x.source x.target x.type x.vector) (send_same h x.source x.target x.type x.vector)))

module _ (h : History) (valid : Valid h) (xs : List Send) where
  pub job_same : job_in (view_of h) xs ≡ same_job view_of (job_on h xs)
  unfolding job_in job_on
  job_same = turn_same view_of _ _ Valid open_valid open_same xs h valid

  job_view : view_of (after_job h (job_on h xs)) ≡ after_job (view_of h) (job_in (view_of h) xs)
  unfolding job_in job_on
  job_view = sym (after_same view_of _ _ Valid open_valid open_same xs h valid)

module _ (h : History) (valid : Valid h) where
  -- What a table that agrees with the history shows after the call is the update of what it showed before.
  pub applied_view : (a : Call) → stopped_on h a ≡ 0 → view_of (applied h a) ≡ updated (view_of h) a
  unfolding applied updated view_of
  applied_view (making D) e = made_view D
  applied_view (blocking n p) e = λ i. unfold set_enabled armed_on in
      record {
        dimension = h.dimension;
        fold = h.fold;
        enabled = λ m q. block_enabled h n p m q i;
        owner = (view_of h).owner;
        receiver = (view_of h).receiver;
        armed = armed_on h;
      }
  applied_view (unblocking n p) e = λ i. unfold set_enabled armed_on in
      record {
        dimension = h.dimension;
        fold = h.fold;
        enabled = λ m q. unblock_enabled h n p (unblock_facts h n p e).0 (unblock_facts h n p e).1 m q i;
        owner = (view_of h).owner;
        receiver = (view_of h).receiver;
        armed = armed_on h;
      }
  applied_view (opening s c t y v) e = opened_view h (record { source = s; channel = c; target = t; type = y; vector = v })
  applied_view (closing s c) e = λ i. unfold without_circuit enabled_on in
      record {
        dimension = h.dimension;
        fold = h.fold;
        enabled = enabled_on h;
        owner = λ n p. drops (holds_link (net_on h) n p) (links_once (net_on h) n p h.circuits valid.apart) i;
        receiver = λ n k. drops (holds_receive n k) (receives_once (net_on h) n k h.circuits valid.apart) i;
        armed = λ n k. close_armed h valid s c (close_facts h s c e) n k i;
      }
    where
      drops : (f : Circuit → Bool) → Once f h.circuits
          → first_circuit f (keep (λ x. not (belongs s c x)) h.circuits) ≡ cond (eqb (first_circuit f h.circuits) (circuit_of s c)) 0 (first_circuit f h.circuits)
      drops f o = number_drop f s c (close_facts h s c e) h.circuits (λ x m. (valid.every_circuit x m).channel) o
  applied_view (tracing s c buffer) e = refl
  applied_view (arming n k) e = λ i. unfold set_armed enabled_on in
      record {
        dimension = h.dimension;
        fold = h.fold;
        enabled = enabled_on h;
        owner = (view_of h).owner;
        receiver = (view_of h).receiver;
        armed = λ m q. arm_armed h n k m q i;
      }
  applied_view (disarming n k) e = λ i. unfold set_armed enabled_on in
      record {
        dimension = h.dimension;
        fold = h.fold;
        enabled = enabled_on h;
        owner = (view_of h).owner;
        receiver = (view_of h).receiver;
        armed = λ m q. disarm_armed h n k m q i;
      }
  applied_view (opening_all sends) e = job_view h valid (sends_in sends)
  applied_view (booking ports index) e = refl
  applied_view (judging ports index circuits hops) e = refl
  applied_view (folding mask) e = λ i. unfold with_fold set_fold holds_link armed_on in
      record {
        dimension = h.dimension;
        fold = mask;
        enabled = λ n q. fold_enabled h mask n q i;
        owner = λ n p. first_circuit (λ x. has_link (same_links (record { dimension = h.dimension; fold = mask }) (shape_on h) x.source x.ports i) n p) h.circuits;
        receiver = λ n k. first_circuit (holds_receive n k) h.circuits;
        armed = armed_on h;
      }
