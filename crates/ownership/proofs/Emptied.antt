-- Closing each circuit of a table and arming its receive channel: each call is accepted, and then nothing is held and all else is as it was.
-- Assumes nothing.
use mathlib.Core.Path.{◌≡◌, refl, ap, sym, ◌∙◌, subst}
use mathlib.Core.Logic.{◌≢◌}
use mathlib.Core.Bool.{Bool, true, false, cond, not, ◌&&◌}
use mathlib.Core.List.Memᴰ
use mathlib.Core.List.{List, [], ◌∷◌}
use Prim.Native.Nat.{ℕ}
use lib.Dec.{eqb}
use borrow.Author.Tests.{eqb-true, eq-eqb, ne_eqb}
use Rattle.common.specs.Lists.{◌∈◌, keep, Pairwise}
use Rattle.common.specs.Tests.{refusal}
use Rattle.common.proofs.Tests.{clash, is_false, both, and}
use Rattle.common.proofs.Lists.{all_cons, keep_no, keep_all}
use Rattle.cube.specs.Cube.{circuit_of}
use Rattle.table.specs.View.{view, set_at}
use Rattle.layout.specs.Resources.{Width}
use Rattle.table.specs.Encode.{AllBytes}
use Rattle.soundness.specs.TableTests.{table_tests}
use Rattle.ownership.specs.Closing.{Each, no_call, call_more}
use Rattle.ownership.specs.Calls.{Call, OfKind, closing, arming, CallResult, After, only, result_of}
use Rattle.ownership.specs.Allowed.{Allowed}
use Rattle.ownership.specs.History.{Circuit, History, net_on, holds_link, holds_receive, belongs, enabled_on, armed_on, facts_on, stopped_on, applied, history_step}
use Rattle.ownership.specs.HistoryView.{first_circuit, view_of}
use Rattle.ownership.specs.Invariant.{CircuitValid, Disjoint, Valid, Represents}
use Rattle.ownership.specs.Agrees.{table_after, table_results, history_after, history_results, after_calls, call_results}
use Rattle.ownership.specs.FromTable.{history_of}
use Rattle.ownership.specs.Judging.{closes_and_arms, emptied, emptying}
use Rattle.ownership.proofs.Circuits.{parts_belong, belongs_parts}
use Rattle.ownership.proofs.CircuitValid.{same_circuit, receiver_exactly, armed_inside}
use Rattle.ownership.proofs.Allowed.{allowed_passes}
use Rattle.ownership.proofs.Armed.{arm_armed, close_armed}
use Rattle.ownership.proofs.ValidAfter.{open_send, applied_valid}
use Rattle.ownership.proofs.Steps.{history_step_lem}
use Rattle.ownership.proofs.Agreement.{represents_run, represents_results, represents_not_stopped}
use Rattle.ownership.proofs.FromTable.{sound_represents}

-- a call that may be made in the history and answers 0 alone
history_accepts : (h : History) (a : Call) → Allowed (facts_on h) a → result_of (facts_on h) a ≡ only 0 → history_step h a ≡ record { state = applied h a; result = only 0 }
unfolding stopped_on
history_accepts h a may gives =
    let s = history_step_lem h a in
    let r = s.result (allowed_passes (facts_on h) a may) ∙ gives in
    λ i. record { state = s.accepted (ap (λ (g : CallResult). g.number) r) i; result = r i }

-- The first circuit of a valid history is closed and its receive channel armed:
module _ (h : History) (valid : Valid h) (x : Circuit) (xs : List Circuit) (lists : h.circuits ≡ x ∷ xs) where
  listed_first : x ∈ h.circuits
  listed_first = rw lists (Memᴰ.head refl)

  stands : CircuitValid h x
  stands = valid.every_circuit x listed_first

  abbrev closed : History
  closed = applied h (closing x.source x.channel)

  abbrev armed_again : History
  armed_again = applied closed (arming x.target x.receive)

  -- the closing is accepted, since the circuit is open,
  may_close : Allowed (facts_on h) (closing x.source x.channel)
  unfolding Allowed facts_on
  may_close = (stands.source, stands.channel, open_send h x listed_first x.source x.channel refl refl)

  closing_step : history_step h (closing x.source x.channel) ≡ record { state = closed; result = only 0 }
  unfolding result_of
  closing_step = history_accepts h (closing x.source x.channel) may_close refl

  closed_valid : Valid closed
  unfolding stopped_on
  closed_valid = applied_valid h valid (closing x.source x.channel) (allowed_passes (facts_on h) (closing x.source x.channel) may_close)

  -- it drops that circuit and no other, since no other is of the same send channel,
  closed_circuits : closed.circuits ≡ xs
  unfolding applied Pairwise
  closed_circuits =
      ap (keep other) lists ∙ keep_no other x xs (ap not (parts_belong x.source x.channel x refl refl))
      ∙ keep_all other xs (λ y m. ap not (is_false _ (λ e. let r = belongs_parts x.source x.channel y e in (apart.0 y m).send (sym r.0) (sym r.1))))
    where
      other : Circuit → Bool
      other y = not (belongs x.source x.channel y)

      apart : Pairwise (Disjoint (net_on h)) (x ∷ xs)
      apart = subst (Pairwise (Disjoint (net_on h))) lists valid.apart

  -- the arming is accepted, since the channel was armed before, so it is one of the eight of a node of the cube,
  may_arm : Allowed (facts_on closed) (arming x.target x.receive)
  unfolding Allowed facts_on applied
  may_arm = armed_inside h valid x.target x.receive stands.armed

  arming_step : history_step closed (arming x.target x.receive) ≡ record { state = armed_again; result = only 0 }
  unfolding result_of
  arming_step = history_accepts closed (arming x.target x.receive) may_arm refl

  again_valid : Valid armed_again
  unfolding stopped_on
  again_valid = applied_valid closed closed_valid (arming x.target x.receive) (allowed_passes (facts_on closed) (arming x.target x.receive) may_arm)

  again_circuits : armed_again.circuits ≡ xs
  again_circuits = unfold applied in closed_circuits

  -- and then the same receive channels are armed as before, since the closing disarmed that one alone.
  again_armed : (n k : ℕ) → armed_on armed_again n k ≡ armed_on h n k
  again_armed n k =
      let set : armed_on armed_again n k ≡ set_at (armed_on closed) x.target x.receive true n k = unfold applied in arm_armed closed x.target x.receive n k in
      set ∙ (unfold set_at in go (eqb n x.target && eqb k x.receive) refl)
    where
      kept : (n ≡ x.target → k ≡ x.receive → ⊥) → (view_of h).receiver n k ≢ circuit_of x.source x.channel
      kept other e =
          let r = (receiver_exactly h valid x.source x.channel stands.channel n k).0 e in
          let same = same_circuit h valid r.0 x r.1 listed_first (λ i. circuit_of (r.2.0 i) (r.2.1 i)) in
          other (r.3.0 ∙ ap (λ (y : Circuit). y.target) same) (r.3.1 ∙ ap (λ (y : Circuit). y.receive) same)

      go : (t : Bool) → (eqb n x.target && eqb k x.receive) ≡ t → cond t true (armed_on closed n k) ≡ armed_on h n k
      go true e = let r = both (eqb n x.target) _ e in rw (eqb-true n x.target r.0, eqb-true k x.receive r.1) (sym stands.armed)
      go false e =
          close_armed h valid x.source x.channel stands.channel n k
          ∙ ap (λ (t : Bool). cond t false (armed_on h n k)) (ne_eqb _ _ (kept (λ i j. clash (and (eq-eqb n x.target i) (eq-eqb k x.receive j)) e)))

  again_emptied : emptied (view_of armed_again) ≡ emptied (view_of h)
  unfolding emptied view_of enabled_on applied
  again_emptied = λ i. record { dimension = h.dimension; fold = h.fold; enabled = enabled_on h; owner = λ n p. 0; receiver = λ n k. 0; armed = λ n k. again_armed n k i }

-- a list of calls whose first answers 0 alone
after_accepted : (h k : History) (a : Call) (more : List Call) → history_step h a ≡ record { state = k; result = only 0 }
    → (history_after h (a ∷ more) ≡ history_after k more) × (history_results h (a ∷ more) ≡ only 0 ∷ history_results k more)
unfolding after_calls call_results
after_accepted h k a more e = (ap (λ (y : After History). history_after y.state more) e, ap (λ (y : After History). y.result ∷ history_results y.state more) e)

-- calls of which each is accepted, and after which the history holds nothing and is otherwise as it was
record Empties (h : History) (calls : List Call) : Type 0 where
  shows : view_of (history_after h calls) ≡ emptied (view_of h)
  accepted : (g : CallResult) → g ∈ history_results h calls → g ≡ only 0

-- So closing each circuit of a valid history and arming its receive channel leaves nothing held, and all else as it was.
-- they are calls on tables of either kind
closing_kinds : (q : ℕ) (xs : List Circuit) → Each (OfKind q) (closes_and_arms xs)
unfolding closes_and_arms
closing_kinds q [] = no_call
closing_kinds q (x ∷ xs) = call_more tt (call_more tt (closing_kinds q xs))

closes_empty : (xs : List Circuit) (h : History) → Valid h → h.circuits ≡ xs → Empties h (closes_and_arms xs)
unfolding closes_and_arms after_calls call_results
closes_empty [] h valid lists =
    record {
      shows = unfold view_of emptied first_circuit in λ i.
          record {
            dimension = h.dimension;
            fold = h.fold;
            enabled = enabled_on h;
            owner = λ n p. first_circuit (holds_link (net_on h) n p) (lists i);
            receiver = λ n k. first_circuit (holds_receive n k) (lists i);
            armed = armed_on h;
          };
      accepted = λ g m. absurd (Memᴰ.not-nil m);
    }
closes_empty (x ∷ xs) h valid lists =
    let again = armed_again h valid x xs lists in
    let rest = closes_empty xs again (again_valid h valid x xs lists) (again_circuits h valid x xs lists) in
    let close = after_accepted h (closed h valid x xs lists) (closing x.source x.channel) (arming x.target x.receive ∷ closes_and_arms xs) (closing_step h valid x xs lists) in
    let arm = after_accepted (closed h valid x xs lists) again (arming x.target x.receive) (closes_and_arms xs) (arming_step h valid x xs lists) in
    record {
      shows = ap view_of (close.0 ∙ arm.0) ∙ rest.shows ∙ again_emptied h valid x xs lists;
      accepted = subst (λ (gs : List CallResult). (g : CallResult) → g ∈ gs → g ≡ only 0) (sym (close.1 ∙ ap (only 0 ∷◌) arm.1)) (all_cons (λ g. g ≡ only 0) refl (all_cons (λ g. g ≡ only 0) refl rest.accepted));
    }

-- On a table that passes its tests:
module _ (q : ℕ) (width : Width q) (b : List ℕ) (small : AllBytes b) (pass : refusal (table_tests q b) ≡ 0) where
  -- what the calls leave that close its circuits and arm their receive channels
  abbrev left : List ℕ
  left = table_after q b (emptying b)

  represents : Represents q b (history_of (view b))
  represents = sound_represents q b small pass

  empties : Empties (history_of (view b)) (emptying b)
  empties = closes_empty (history_of (view b)).circuits (history_of (view b)) represents.valid refl

  -- Each of those calls is accepted,
  pub closes_accepted : (g : CallResult) → g ∈ table_results q b (emptying b) → g ≡ only 0
  closes_accepted = rw (represents_results q width (emptying b) (closing_kinds q (history_of (view b)).circuits) b (history_of (view b)) represents) empties.accepted

  -- they leave a table that passes its tests, shows nothing held, and shows all else as it was.
  left_represents : Represents q left (history_after (history_of (view b)) (emptying b))
  left_represents = represents_run q width (emptying b) (closing_kinds q (history_of (view b)).circuits) b (history_of (view b)) represents

  pub closes_pass : refusal (table_tests q left) ≡ 0
  closes_pass = represents_not_stopped q left (history_after (history_of (view b)) (emptying b)) left_represents

  pub closes_show : view left ≡ emptied (view b)
  closes_show = left_represents.shows ∙ empties.shows ∙ ap emptied (sym represents.shows)
