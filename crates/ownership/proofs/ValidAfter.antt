-- A call that no test stops keeps the history valid.
-- Assumes nothing.
use mathlib.Core.Path.{◌≡◌, refl, sym, ◌∙◌, subst}
use mathlib.Core.Logic.{⊎_elim}
use mathlib.Core.Bool.{Bool, true, false, cond, not, ◌&&◌, ◌||◌}
use mathlib.Core.List.Memᴰ
use mathlib.Core.List.{List, ◌∷◌}
use Prim.Native.Nat.{ℕ, ◌^◌, ◌≤◌, ◌<◌}
use lib.Dec.{eqb, lit<}
use native.Mathlib.Omega.{arith}
use borrow.Author.Tests.{eqb-true, lt-ltb, not-true}
use Rattle.cube.specs.Bits.{has}
use Rattle.cube.specs.Axes.{axis, present}
use Rattle.cube.specs.Cube.{largest_dimension, channels, NodeOf}
use Rattle.cube.proofs.Bits.{zero_has, no_bit_above}
use Rattle.cube.proofs.Ports.{below_256}
use Rattle.common.specs.Lists.{◌∈◌, keep, Pairwise}
use Rattle.common.specs.Tests.{refusal}
use Rattle.common.proofs.Tests.{clash, is_false, both}
use Rattle.common.proofs.Lists.{keep_mem, keep_pairwise, pairwise_imp, some_any}
use Rattle.paths.specs.Network.{Path, Link, links}
use Rattle.paths.specs.CubeNetwork.{LinkOf, is_link_of}
use Rattle.paths.specs.Send.{Outcome, acknowledged, route_rejected, receive_rejected}
use Rattle.paths.proofs.Words.{free_link}
use Rattle.table.specs.View.{set_at}
use Rattle.ownership.specs.Sends.{Send, sends_in}
use Rattle.ownership.specs.Calls.{Call, making, blocking, unblocking, opening, closing, tracing, arming, disarming, opening_all, booking, judging, folding, OfKind, opening_of, call_tests, no_job}
use Rattle.ownership.specs.InTurn.{single_open, after_job}
use Rattle.ownership.specs.History.{Circuit, History, shape_on, net_on, links_of, holds_link, holds_receive, belongs, enabled_on, held_on, free_on, taken_on, open_on, armed_on, receive_on, facts_on, facts_on_with, stopped_on, send_on, with_blocked, with_circuits, with_armed, with_fold, keeps_bit, without_entry, with_opened, opened_on, job_on, applied, new_history}
use Rattle.ownership.specs.Invariant.{CircuitValid, Disjoint, Valid}
use Rattle.ownership.proofs.Circuits.{parts_belong, belongs_number}
use Rattle.ownership.proofs.CircuitValid.{link_holds, receive_holds, receiver_of, inside}
use Rattle.ownership.proofs.Ports.{kept_port, same_links, port_link, permitted_in}
use Rattle.answers.proofs.AfterSend.{SendTakes, send_taken}
use Rattle.ownership.proofs.Acknowledged.{receive_free}
use Rattle.ownership.specs.Allowed.{Allowed}
use Rattle.ownership.proofs.Allowed.{allowed_on, made_facts, block_facts, unblock_facts, close_facts, arm_facts, disarm_facts, fold_facts}
use Rattle.ownership.proofs.InTurn.{after_keeps}
use Rattle.ownership.proofs.Range.{FoldFits}
use Rattle.ownership.proofs.Steps.{step_says}
use Rattle.ownership.proofs.Enabled.{block_enabled, unblock_enabled, fold_enabled}
use Rattle.ownership.proofs.Armed.{arm_armed, disarm_armed, close_armed}

-- a listed circuit holds its links and its receive channel and makes its send channel open, in the words of the history
pub held_link : (h : History) (x : Circuit) → x ∈ h.circuits → (n p : ℕ) → (n, p) ∈ links_of (net_on h) x → held_on h n p ≡ true
unfolding held_on
held_link h x m n p l = some_any (holds_link (net_on h) n p) h.circuits m (link_holds (net_on h) n p x l)

pub taken_receive : (h : History) (x : Circuit) → x ∈ h.circuits → (n k : ℕ) → n ≡ x.target → k ≡ x.receive → taken_on h n k ≡ true
unfolding taken_on
taken_receive h x m n k e f = some_any (holds_receive n k) h.circuits m (receive_holds n k x e f)

pub open_send : (h : History) (x : Circuit) → x ∈ h.circuits → (s c : ℕ) → x.source ≡ s → x.channel ≡ c → open_on h s c ≡ true
unfolding open_on
open_send h x m s c e f = some_any (belongs s c) h.circuits m (parts_belong s c x e f)

-- the history that a making begins, whatever was before it, is valid
pub made_valid : (D : ℕ) → 1 ≤ D → D ≤ largest_dimension → Valid (new_history D)
unfolding Pairwise
made_valid D l m =
    record {
      least = l;
      most = m;
      folded = λ p e. absurd (clash e (zero_has p));
      blocked = λ x k. absurd (Memᴰ.not-nil k);
      armed = λ x k. absurd (Memᴰ.not-nil k);
      every_circuit = λ x k. absurd (Memᴰ.not-nil k);
      apart = tt;
    }

-- a mark that is set stays so where it is set again, and where another is cleared
set_again : (f : ℕ → ℕ → Bool) (n p m q : ℕ) → f m q ≡ true → set_at f n p true m q ≡ true
unfolding set_at
set_again f n p m q on = rw on (go (eqb m n && eqb q p))
  where
    go : (b : Bool) → cond b true true ≡ true
    go true = refl
    go false = refl

other_cleared : (f : ℕ → ℕ → Bool) (n p m q : ℕ) → f m q ≡ true → (m ≡ n → q ≡ p → ⊥) → set_at f n p false m q ≡ true
unfolding set_at
other_cleared f n p m q on other =
    let off = is_false _ (λ u. let i = both (eqb m n) (eqb q p) u in other (eqb-true m n i.0) (eqb-true q p i.1)) in rw off on

module _ (h : History) (valid : Valid h) where
  -- other blocked links: those within the cube, where each held link stays enabled
  blocked_valid : (ls : List Link) → ((l : Link) → l ∈ ls → LinkOf (shape_on h) l.0 l.1)
      → ((n p : ℕ) → held_on h n p ≡ true → enabled_on h n p ≡ true → enabled_on (with_blocked h ls) n p ≡ true) → Valid (with_blocked h ls)
  unfolding armed_on
  blocked_valid ls inside on =
      record {
        least = valid.least;
        most = valid.most;
        folded = valid.folded;
        blocked = inside;
        armed = valid.armed;
        every_circuit = λ x m.
            let s = valid.every_circuit x m in
            record {
              source = s.source;
              channel = s.channel;
              permitted = s.permitted;
              enabled = λ l k. on l.0 l.1 (held_link h x m l.0 l.1 k) (s.enabled l k);
              receive = s.receive;
              armed = s.armed;
            };
        apart = valid.apart;
      }

  -- other circuits and other armed channels: each circuit as it stood before, and its receive channel still armed
  pub circuits_valid : (xs : List Circuit) (ls : List (ℕ × ℕ)) → ((l : ℕ × ℕ) → l ∈ ls → (l.0 < 2 ^ h.dimension) × (l.1 < 8))
      → ((x : Circuit) → x ∈ xs → CircuitValid h x × (armed_on (with_armed h ls) x.target x.receive ≡ true)) → Pairwise (Disjoint (net_on h)) xs
      → Valid (with_armed (with_circuits h xs) ls)
  unfolding enabled_on armed_on
  circuits_valid xs ls inside stand apart =
      record {
        least = valid.least;
        most = valid.most;
        folded = valid.folded;
        blocked = valid.blocked;
        armed = inside;
        every_circuit = λ x m.
            let (s, on) = stand x m in
            record { source = s.source; channel = s.channel; permitted = s.permitted; enabled = s.enabled; receive = s.receive; armed = on };
        apart = apart;
      }

  -- an acknowledged open: its circuit stands, and is separate from each that is listed
  module _ (s c t : ℕ) (there : NodeOf h.dimension s) (small : c < channels) (shut : open_on h s c ≡ false) (w : Path) (k : ℕ) (taken : SendTakes (shape_on h) (free_on h) (receive_on h t) s t w k) where
    abbrev new : Circuit
    new = record { source = s; channel = c; ports = w; target = t; receive = k }

    free_facts : (n p : ℕ) → (n, p) ∈ links (net_on h) s w → (enabled_on h n p ≡ true) × (held_on h n p ≡ false)
    unfolding free_on
    free_facts n p m = (free_link (enabled_on h n p) (held_on h n p)).0 (taken.is_free (n, p) m)

    new_stands : CircuitValid h new
    new_stands =
        record {
          source = there;
          channel = small;
          permitted = taken.permitted;
          enabled = λ l m. (free_facts l.0 l.1 m).0;
          receive = (receive_free h t k taken.receives).0;
          armed = (receive_free h t k taken.receives).1;
        }

    new_apart : (y : Circuit) → y ∈ h.circuits → Disjoint (net_on h) new y
    new_apart y m =
        record {
          send = λ e f. clash (open_send h y m s c (sym e) (sym f)) shut;
          link = λ l i j. clash (held_link h y m l.0 l.1 j) (free_facts l.0 l.1 i).1;
          receives = λ e f. clash (taken_receive h y m t k e f) (receive_free h t k taken.receives).2;
        }

    added_valid : Valid (with_circuits h (new ∷ h.circuits))
    added_valid =
        circuits_valid (new ∷ h.circuits) h.armed valid.armed
        (λ x m. let s = ⊎_elim (λ e. subst (CircuitValid h) (sym e) new_stands) (λ i. valid.every_circuit x i) (Memᴰ.cases_cons m) in (s, s.armed))
        (unfold Pairwise in (new_apart, valid.apart))

  -- Another fold mask, of which no bit is at or above D, and with which each held link is one of the cube: the links that it keeps blocked are, and each circuit stands
  -- as it stood.
  pub fold_valid : (mask : ℕ) → ((p : ℕ) → has mask p ≡ true → p < h.dimension)
      → ((n q : ℕ) → NodeOf h.dimension n → present h.dimension h.fold q ≡ true → held_on h n q ≡ true → present h.dimension mask q ≡ true) → Valid (with_fold h mask)
  unfolding with_fold armed_on
  fold_valid mask below stays =
      record {
        least = valid.least;
        most = valid.most;
        folded = below;
        blocked = λ l m. let r = keep_mem (λ (k : Link). keeps_bit h.fold mask k.1) h.blocked m in let b = valid.blocked l r.0 in (b.0, sym (kept_port h.dimension h.fold mask l.1 r.1) ∙ b.1);
        armed = valid.armed;
        every_circuit = λ x m.
            let s = valid.every_circuit x m in
            record {
              source = s.source;
              channel = s.channel;
              permitted =
                  permitted_in (shape_on h) (shape_on (with_fold h mask)) x.target x.source x.ports
                  (λ q i. let k = port_link (net_on h) x.source x.ports q i in link_there x m (k.0, q) k.1) s.permitted;
              enabled = λ l k. let i = rw (same x) at k in fold_enabled h mask l.0 l.1 ∙ on (eqb l.1 (axis l.1)) l.0 l.1 (not (has h.fold (axis l.1))) ((inside h valid x m).0 l.0 l.1 i).0 (link_there x m l i) (s.enabled l i);
              receive = s.receive;
              armed = s.armed;
            };
        apart =
            pairwise_imp (Disjoint (net_on h)) (Disjoint (net_on (with_fold h mask))) h.circuits
            (λ x y m n d. record { send = d.send; link = λ l i j. d.link l (rw (same x) at i) (rw (same y) at j); receives = d.receives }) valid.apart;
      }
    where
      same : (x : Circuit) → links_of (net_on (with_fold h mask)) x ≡ links_of (net_on h) x
      same x = same_links (shape_on (with_fold h mask)) (shape_on h) x.source x.ports

      link_there : (x : Circuit) → x ∈ h.circuits → (l : Link) → l ∈ links_of (net_on h) x → present h.dimension mask l.1 ≡ true
      link_there x m l i = let r = (inside h valid x m).0 l.0 l.1 i in stays l.0 l.1 r.0 r.1 (held_link h x m l.0 l.1 i)

      on : (o : Bool) (n q : ℕ) (y : Bool) → NodeOf h.dimension n → present h.dimension mask q ≡ true → enabled_on h n q ≡ true
          → cond o (enabled_on h n q) (is_link_of (shape_on (with_fold h mask)) n q && (enabled_on h n q || y)) ≡ true
      on true n q y i p e = e
      on false n q y i p e = rw (e, p, lt-ltb n (2 ^ h.dimension) i)

  opened_valid : (s c t y v : ℕ) → Allowed (facts_on h) (opening s c t y v) → (o : Outcome) → (send_on h s t y v).outcome ≡ o → Valid (with_opened h s c t o)
  unfolding with_opened send_on Allowed facts_on
  opened_valid s c t y v r (acknowledged w k) e = added_valid s c t r.0 r.2 r.5 w k (send_taken (shape_on h) (free_on h) (receive_on h t) s t v valid.most r.0 r.1 w k y e)
  opened_valid s c t y v r route_rejected e = valid
  opened_valid s c t y v r receive_rejected e = valid

-- An acknowledged open of a job keeps the history valid, and so do all of them.
pub open_valid : (h : History) (x : Send) → Valid h → (single_open (facts_on_with no_job) opened_on h x).result.number ≡ 0 → Valid (single_open (facts_on_with no_job) opened_on h x).state
unfolding stopped_on call_tests facts_on
open_valid h x valid e =
    let says = step_says h (opened_on h x) (facts_on_with no_job h) (refusal (call_tests (facts_on_with no_job h) (opening_of x))) (opening_of x) in
    rw (says.accepted e) (opened_valid h valid x.source x.channel x.target x.type x.vector (allowed_on h (opening_of x) (says.passed e)) _ refl)

pub job_valid : (h : History) → Valid h → (xs : List Send) → Valid (after_job h (job_on h xs))
unfolding job_on
job_valid h valid xs = after_keeps (single_open (facts_on_with no_job) opened_on) Valid open_valid xs h valid

module _ (h : History) (valid : Valid h) where
  -- A call that no test stops keeps the history valid.
  pub applied_valid : (a : Call) → stopped_on h a ≡ 0 → Valid (applied h a)
  unfolding applied
  applied_valid (making D) e = let r = made_facts h D e in made_valid D r.0 r.1
  applied_valid (blocking n p) e =
      let r = block_facts h n p e in
      blocked_valid h valid ((n, p) ∷ h.blocked)
      (λ l m.
      ⊎_elim (λ q. subst (λ (x : Link). LinkOf (shape_on h) x.0 x.1) (sym q) (r.0, r.1)) (λ k. valid.blocked l k)
      (Memᴰ.cases_cons m))
      (λ m q held on. block_enabled h n p m q ∙ other_cleared (enabled_on h) n p m q on (λ x y. clash held (rw (x, y) r.2)))
  applied_valid (unblocking n p) e =
      let r = unblock_facts h n p e in
      blocked_valid h valid (without_entry n p h.blocked) (λ l m. valid.blocked l (unfold without_entry in (keep_mem _ h.blocked m).0))
      (λ m q held on. unblock_enabled h n p r.0 r.1 m q ∙ set_again (enabled_on h) n p m q on)
  applied_valid (opening s c t y v) e = opened_valid h valid s c t y v (allowed_on h (opening s c t y v) e) (send_on h s t y v).outcome refl
  applied_valid (closing s c) e =
      circuits_valid h valid (keep other h.circuits) (applied h (closing s c)).armed (λ l m. valid.armed l (keep_mem _ h.armed m).0)
      (λ x m. let k = keep_mem other h.circuits m in (valid.every_circuit x k.0, unfold armed_on in still_armed x k.0 (not-true _ k.1)))
      (keep_pairwise other (Disjoint (net_on h)) h.circuits valid.apart)
    where
      other : Circuit → Bool
      other x = not (belongs s c x)

      -- a circuit that is not closed holds another receive channel
      still_armed : (x : Circuit) → x ∈ h.circuits → belongs s c x ≡ false → armed_on (applied h (closing s c)) x.target x.receive ≡ true
      still_armed x m f =
          let small = close_facts h s c e in
          let circuit = valid.every_circuit x m in
          close_armed h valid s c small x.target x.receive
          ∙ (rw (receiver_of h valid x m, belongs_number s c x small circuit.channel, f) circuit.armed)
  applied_valid (tracing s c buffer) e = valid
  applied_valid (arming n k) e =
      circuits_valid h valid h.circuits ((n, k) ∷ h.armed)
      (λ l m.
      ⊎_elim (λ q. subst (λ (x : ℕ × ℕ). (x.0 < 2 ^ h.dimension) × (x.1 < 8)) (sym q) (arm_facts h n k e)) (λ i. valid.armed l i)
      (Memᴰ.cases_cons m))
      (λ x m. let s = valid.every_circuit x m in (s, arm_armed h n k _ _ ∙ set_again (armed_on h) n k _ _ s.armed)) valid.apart
  applied_valid (disarming n k) e =
      circuits_valid h valid h.circuits (without_entry n k h.armed) (λ l m. valid.armed l (unfold without_entry in (keep_mem _ h.armed m).0))
      (λ x m.
      let s = valid.every_circuit x m in
      let other : x.target ≡ n → x.receive ≡ k → ⊥ = λ i j. clash (taken_receive h x m n k (sym i) (sym j)) (disarm_facts h n k e) in
      (s, disarm_armed h n k _ _ ∙ other_cleared (armed_on h) n k _ _ s.armed other)) valid.apart
  applied_valid (opening_all sends) e = job_valid h valid (sends_in sends)
  applied_valid (booking ports index) e = valid
  applied_valid (judging ports index circuits hops) e = valid
  applied_valid (folding mask) e = let r = fold_facts h mask e in fold_valid h valid mask r.0 r.1

-- Its fold mask is one that a table of its kind can have, where the one before was: a making clears it, and only a call on a wide table sets it.
module _ (q : ℕ) where
  opened_fold : (h : History) → FoldFits q h.fold → (s c t : ℕ) (o : Outcome) → FoldFits q (with_opened h s c t o).fold
  unfolding with_opened
  opened_fold h fold s c t (acknowledged w k) = fold
  opened_fold h fold s c t route_rejected = fold
  opened_fold h fold s c t receive_rejected = fold

  pub applied_fold : (h : History) → Valid h → FoldFits q h.fold → (a : Call) → OfKind q a → stopped_on h a ≡ 0 → FoldFits q (applied h a).fold
  unfolding applied job_on with_fold
  applied_fold h valid fold (making D) kind e = record { small = lit< tt; plain = λ z. refl }
  applied_fold h valid fold (blocking n p) kind e = fold
  applied_fold h valid fold (unblocking n p) kind e = fold
  applied_fold h valid fold (opening s c t y v) kind e = opened_fold h fold s c t (send_on h s t y v).outcome
  applied_fold h valid fold (closing s c) kind e = fold
  applied_fold h valid fold (tracing s c buffer) kind e = fold
  applied_fold h valid fold (arming n k) kind e = fold
  applied_fold h valid fold (disarming n k) kind e = fold
  applied_fold h valid fold (opening_all sends) kind e =
      after_keeps (single_open (facts_on_with no_job) opened_on) (λ g. FoldFits q g.fold)
      (λ g x fits z.
      rw ((step_says g (opened_on g x) (facts_on_with no_job g) (refusal (call_tests (facts_on_with no_job g) (opening_of x))) (opening_of x)).accepted z)
      (opened_fold g fits x.source x.channel x.target (send_on g x.source x.target x.type x.vector).outcome)) (sends_in sends) h fold
  applied_fold h valid fold (booking ports index) kind e = fold
  applied_fold h valid fold (judging ports index circuits hops) kind e = fold
  applied_fold h valid fold (folding mask) kind e =
      record {
        small = below_256 valid.most (no_bit_above h.dimension mask (λ p l. is_false _ (λ on. omega (arith, l, (fold_facts h mask e).0 p on))));
        plain = λ z. omega (arith, z, kind);
      }
