-- Promises 12: an open of routing type 0 whose send vector is uphill gets the same on two sound tables that agree between its source and its target.
-- Assumes nothing.
use mathlib.Core.Path.{◌≡◌, refl, ap, ap₂, sym, ◌∙◌}
use mathlib.Core.Logic.{⊎_elim}
use mathlib.Core.Bool.{Bool, true, false, cond, not, ◌&&◌, not-not}
use mathlib.Core.List.{List, map}
use Prim.Native.Nat.{ℕ, ◌≤◌, ◌<◌}
use native.Mathlib.Omega.{arith}
use lib.Dec.{eqb, ltb}
use borrow.Author.Tests.{eq-eqb, ltb-false}
use Rattle.common.specs.Lists.{◌∈◌, any}
use Rattle.common.specs.Tests.{refusal}
use Rattle.common.proofs.Tests.{same?}
use Rattle.common.proofs.Lowest.{lowest_same}
use Rattle.cube.specs.Cube.{largest_dimension, channels, next}
use Rattle.paths.specs.Network.{Path, LinkState, link_free, link_held, link_blocked, link_state, is_free}
use Rattle.paths.specs.Between.{Between, VectorUphill}
use Rattle.paths.specs.Send.{Receive, lowest_available, none_available, Outcome, acknowledged, route_rejected, receive_rejected, SendResult, lowest_of, attempted, runs}
use Rattle.paths.specs.Waiting.{finds_path, some_attempt}
use Rattle.paths.specs.CubeNetwork.{Shape, ports, network, attempts, send}
use Rattle.paths.proofs.CubeNetwork.{unfolded_port}
use Rattle.paths.proofs.Between.{attempts_between}
use Rattle.table.specs.View.{View, view, shape_of, held_in, available, receive}
use Rattle.layout.specs.Resources.{Width}
use Rattle.table.specs.Encode.{AllBytes}
use Rattle.soundness.specs.TableTests.{table_tests}
use Rattle.answers.specs.SendOnTable.{state_in, free_in, send_in, waiting_helps}
use Rattle.ownership.specs.Calls.{Call, opening, tracing, CallResult, refused_with, answered, call_tests, result_of, call_on}
use Rattle.ownership.specs.TableFacts.{taken_in}
use Rattle.ownership.specs.OnTable.{facts_of, stopped_at, table_step}
use Rattle.ownership.specs.History.{History, belongs, open_on, listed, facts_on, stopped_on, with_opened, applied, history_step, send_on}
use Rattle.ownership.specs.FromTable.{history_of}
use Rattle.ownership.specs.SameOpen.{SameBetween, SameOpen}
use Rattle.ownership.proofs.Stops.{pass_tests, stopped_is}
use Rattle.ownership.proofs.Steps.{table_step_lem, history_step_lem}
use Rattle.ownership.proofs.Sameness.{send_same}
use Rattle.ownership.proofs.Agreement.{represents_step}
use Rattle.ownership.proofs.FromTable.{sound_represents}

-- the state of a link tells whether it is enabled
is_enabled : LinkState → Bool
is_enabled link_free = true
is_enabled link_held = true
is_enabled link_blocked = false

state_enabled : (enabled held : Bool) → is_enabled (link_state enabled held) ≡ enabled
unfolding link_state is_enabled
state_enabled false held = refl
state_enabled true true = refl
state_enabled true false = refl

-- What two tables show of an open, where they agree on what it looks at:
module _ (s c t vector : ℕ) (v w : View) (fits : v.dimension ≤ largest_dimension) (up : VectorUphill s t vector) (same : SameBetween s c t v w) where
  -- the same links are free, and the same are enabled,
  same_free : (n q : ℕ) → q ∈ ports (shape_of v) → Between s t n → Between s t (next n q) → free_in v n q ≡ free_in w n q
  unfolding free_in
  same_free n q m i j = ap is_free (same.links n q ((unfolded_port (shape_of v) fits same.unfolded q).0 m) i j)

  same_enabled : (n q : ℕ) → q ∈ ports (shape_of v) → Between s t n → Between s t (next n q) → v.enabled n q ≡ w.enabled n q
  unfolding state_in
  same_enabled n q m i j =
      sym (state_enabled (v.enabled n q) (held_in v n q)) ∙ ap is_enabled (same.links n q ((unfolded_port (shape_of v) fits same.unfolded q).0 m) i j)
      ∙ state_enabled (w.enabled n q) (held_in w n q)

  -- the target takes the same channel,
  same_available : (k : ℕ) → k < channels → available v t k ≡ available w t k
  unfolding available taken_in
  same_available k l =
      ap₂ ◌&&◌ (same.armed k l) (sym (not-not (eqb (v.receiver t k) 0)) ∙ ap not (same.held k l) ∙ not-not (eqb (w.receiver t k) 0))

  same_receive : receive v t ≡ receive w t
  unfolding receive lowest_of
  same_receive =
      ap (λ (k : ℕ). cond (eqb k channels) none_available (lowest_available k)) (lowest_same (available v t) (available w t) channels 0 (λ j i l. same_available j (omega arith)))

  same_shape : shape_of v ≡ shape_of w
  same_shape = λ i. record { dimension = same.dimension i; fold = (same.unfolded ∙ sym same.unfolded_too) i }

  -- so the send is the same, and so is whether waiting helps it.
  same_send : send_in v s t 0 vector ≡ send_in w s t 0 vector
  unfolding send
  same_send =
      ap (runs (receive v t)) (attempts_between (shape_of v) s t vector up (free_in v) (free_in w) same_free)
      ∙ ap₂ (λ (r : Receive) (S : Shape). runs r (map (attempted (network S) (free_in w) s t) (attempts S 0 vector))) same_receive same_shape

  same_waiting : waiting_helps v s t 0 vector ≡ waiting_helps w s t 0 vector
  unfolding waiting_helps some_attempt
  same_waiting =
      ap (any finds_path) (attempts_between (shape_of v) s t vector up v.enabled w.enabled same_enabled)
      ∙ ap (λ (S : Shape). any finds_path (map (attempted (network S) w.enabled s t) (attempts S 0 vector))) same_shape

  -- No test tells them apart; where Refusals 5 applies, Refusals 9 is not asked.
  same_tests : refusal (call_tests (facts_of v) (opening s c t 0 vector)) ≡ refusal (call_tests (facts_of w) (opening s c t 0 vector))
  unfolding call_tests facts_of refusal
  same_tests = go (ltb 7 c) refl
    where
      go : (x : Bool) → ltb 7 c ≡ x → refusal (call_tests (facts_of v) (opening s c t 0 vector)) ≡ refusal (call_tests (facts_of w) (opening s c t 0 vector))
      go true e = rw (e, same.dimension)
      go false e = rw (same.send_channel (omega (arith, ltb-false 7 c e)), same.dimension)

-- a trace of a send channel gives the same in two histories that agree on the dimension, on whether it is open and on its path
trace_alike : (g h : History) (s c : ℕ) (buffer : List ℕ) → g.dimension ≡ h.dimension → open_on g s c ≡ open_on h s c → listed g.circuits s c ≡ listed h.circuits s c
    → (history_step g (tracing s c buffer)).result ≡ (history_step h (tracing s c buffer)).result
unfolding history_step call_on stopped_on call_tests facts_on result_of
trace_alike g h s c buffer d o l = rw (o, l, d)

-- the circuit that an acknowledged open adds is open, and its path is the one that was found
module _ (h : History) (s c t : ℕ) (w : Path) (k : ℕ) where
  own : belongs s c (record { source = s; channel = c; ports = w; target = t; receive = k }) ≡ true
  unfolding belongs
  own = rw (eq-eqb s s refl, eq-eqb c c refl)

  opened_open : open_on (with_opened h s c t (acknowledged w k)) s c ≡ true
  unfolding open_on with_opened any
  opened_open = rw own

  opened_path : listed (with_opened h s c t (acknowledged w k)).circuits s c ≡ w
  unfolding listed with_opened
  opened_path = rw own

-- the history that a sound table amounts to, after an open of it that is acknowledged
module _ (q : ℕ) (width : Width q) (b : List ℕ) (small : AllBytes b) (e : refusal (table_tests q b) ≡ 0) (s c t type vector : ℕ) (w : Path) (k : ℕ) (z : (table_step q b (opening s c t type vector)).result.number ≡ 0)
    (found : (send_in (view b) s t type vector).outcome ≡ acknowledged w k) where
  abbrev sent : Call
  sent = opening s c t type vector

  abbrev opened_on : History
  opened_on = with_opened (history_of (view b)) s c t (acknowledged w k)

  found_on : (send_on (history_of (view b)) s t type vector).outcome ≡ acknowledged w k
  found_on =
      ap (λ (x : SendResult). x.outcome) (sym (send_same (history_of (view b)) s t type vector))
      ∙ ap (λ (v : View). (send_in v s t type vector).outcome) (sym (sound_represents q b small e).shows) ∙ found

  opened_history : (history_step (history_of (view b)) sent).state ≡ opened_on
  unfolding applied
  opened_history =
      let step = represents_step q width b (history_of (view b)) (sound_represents q b small e) sent tt in
      (history_step_lem (history_of (view b)) sent).accepted (sym (ap (λ (g : CallResult). g.number) step.result) ∙ z)
      ∙ ap (with_opened (history_of (view b)) s c t) found_on

  -- what a trace of it gives
  traced_on : (buffer : List ℕ) → (table_step q (table_step q b sent).state (tracing s c buffer)).result ≡ (history_step opened_on (tracing s c buffer)).result
  traced_on buffer =
      let step = represents_step q width b (history_of (view b)) (sound_represents q b small e) sent tt in
      (represents_step q width (table_step q b sent).state _ step.represented (tracing s c buffer) tt).result
      ∙ ap (λ (h : History). (history_step h (tracing s c buffer)).result) opened_history

-- an open that is acknowledged found a path
found_path : (helps : Bool) (o : Outcome) (n : ℕ) → (answered helps o n).number ≡ 0 → (w : Path) × (k : ℕ) × (o ≡ acknowledged w k)
unfolding answered
found_path helps (acknowledged w k) n e = (w, k, refl)
found_path true route_rejected n e = absurd (omega arith)
found_path false route_rejected n e = absurd (omega arith)
found_path helps receive_rejected n e = absurd (omega arith)

-- Promises 12, of two sound tables that agree as SameBetween says.
module _ (q r : ℕ) (width₁ : Width q) (width₂ : Width r) (a b : List ℕ) (all₁ : AllBytes a) (all₂ : AllBytes b) (pass₁ : refusal (table_tests q a) ≡ 0) (pass₂ : refusal (table_tests r b) ≡ 0)
    (s c t vector : ℕ) (up : VectorUphill s t vector) (same : SameBetween s c t (view a) (view b)) where
  abbrev call : Call
  call = opening s c t 0 vector

  fits : (view a).dimension ≤ largest_dimension
  unfolding view
  fits = (pass_tests q a pass₁).2

  stops_same : stopped_at q a call ≡ stopped_at r b call
  stops_same =
      let p = pass_tests q a pass₁ in
      let o = pass_tests r b pass₂ in
      stopped_is q a p.0 p.1 p.2 p.3 call ∙ same_tests s c t vector (view a) (view b) fits up same
      ∙ sym (stopped_is r b o.0 o.1 o.2 o.3 call)

  send_is : send_in (view a) s t 0 vector ≡ send_in (view b) s t 0 vector
  send_is = same_send s c t vector (view a) (view b) fits up same

  answers_same : result_of (facts_of (view a)) call ≡ result_of (facts_of (view b)) call
  unfolding result_of facts_of
  answers_same =
      ap₂ (λ (helps : Bool) (x : SendResult). answered helps x.outcome x.scouts) (same_waiting s c t vector (view a) (view b) fits up same) send_is

  results_same : (table_step q a call).result ≡ (table_step r b call).result
  results_same =
      ⊎_elim (λ z. (table_step_lem q a call).result z ∙ answers_same ∙ sym ((table_step_lem r b call).result (sym stops_same ∙ z)))
      (λ f. rw ((table_step_lem q a call).stopped f, (table_step_lem r b call).stopped (λ z. f (stops_same ∙ z)))
      (ap (λ i. refused_with i call) stops_same)) (same? (stopped_at q a call) 0)

  paths_same : (table_step q a call).result.number ≡ 0 → (buffer : List ℕ)
      → (table_step q (table_step q a call).state (tracing s c buffer)).result ≡ (table_step r (table_step r b call).state (tracing s c buffer)).result
  unfolding result_of facts_of
  paths_same z buffer =
      let step = table_step_lem q a call in
      let x = found_path _ _ _ (rw (step.result (step.passed z)) at z) in
      let z₂ = sym (ap (λ (g : CallResult). g.number) results_same) ∙ z in
      let second = sym (ap (λ (x : SendResult). x.outcome) send_is) ∙ x.2 in
      traced_on q width₁ a all₁ pass₁ s c t 0 vector x.0 x.1 z x.2 buffer
      ∙ trace_alike (opened_on q width₁ a all₁ pass₁ s c t 0 vector x.0 x.1 z x.2) (opened_on r width₂ b all₂ pass₂ s c t 0 vector x.0 x.1 z₂ second) s c buffer
      (unfold with_opened history_of in same.dimension)
      (opened_open (history_of (view a)) s c t x.0 x.1 ∙ sym (opened_open (history_of (view b)) s c t x.0 x.1))
      (opened_path (history_of (view a)) s c t x.0 x.1 ∙ sym (opened_path (history_of (view b)) s c t x.0 x.1))
      ∙ sym (traced_on r width₂ b all₂ pass₂ s c t 0 vector x.0 x.1 z₂ second buffer)

  pub same_open : SameOpen q r s c t 0 vector a b
  same_open = record { sent = send_is; result = results_same; path = paths_same }
