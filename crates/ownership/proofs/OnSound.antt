-- What the calls say of any table that passes the tests of a lent table, whether it represents a history or not.
-- Assumes nothing.
use mathlib.Core.Path.{◌≡◌, refl, ap, sym, ◌∙◌, subst}
use mathlib.Core.Logic.{⊎_elim, ◌≢◌, ◌↔◌}
use mathlib.Core.Bool.{true, false, not, Bool}
use mathlib.Core.List.{List, []}
use Prim.Native.Nat.{ℕ, ◌<◌}
use native.Mathlib.Omega.{arith}
use borrow.Author.Tests.{eq-eqb, eqb-true}
use Rattle.common.specs.Tests.{refusal}
use Rattle.common.proofs.Tests.{clash, is_false, same?, refusal_before, refusal_after, Avoids, avoids, avoiding, never_answered}
use Rattle.common.proofs.Lists.{any_some}
use Rattle.cube.specs.Bits.{has}
use Rattle.cube.specs.Cube.{channels, NodeOf, source_of, circuit_of}
use Rattle.cube.proofs.Bits.{no_bit_above}
use Rattle.paths.specs.CubeNetwork.{ports}
use Rattle.paths.specs.Send.{Outcome, acknowledged, route_rejected, receive_rejected}
use Rattle.layout.specs.Layout.{length_of, dimension_at, fold_at, enabled_at, owner_at, receiver_at, armed_at}
use Rattle.layout.specs.Resources.{Width}
use Rattle.table.specs.View.{View, view, shape_of, held_in, held_by}
use Rattle.table.specs.Encode.{AllBytes, BytesOver}
use Rattle.circuit_path.specs.CircuitSound.{CircuitSound}
use Rattle.circuit_path.specs.OpenCircuit.{is_open_in}
use Rattle.soundness.specs.Sound.{Sound}
use Rattle.soundness.specs.TableTests.{table_tests}
use Rattle.soundness.proofs.Soundness.{link_stands}
use Rattle.soundness.proofs.Passing.{answers}
use Rattle.answers.specs.SendOnTable.{answer_on_bytes, answer_of_outcome}
use Rattle.answers.specs.SendAnswer.{send_answer, sent_on_bytes, MaySendIn}
use Rattle.answers.specs.SendSays.{SendSays}
use Rattle.answers.proofs.SendSays.{demand_2}
use Rattle.judging.specs.Judged.{judge_tests}
use Rattle.ownership.specs.Calls.{Call, making, blocking, unblocking, opening, closing, tracing, arming, disarming, opening_all, booking, judging, folding, call_tests, CallResult, hops_of, receive_of, scouts_of, only, answered, result_of}
use Rattle.ownership.specs.TableFacts.{open_in, taken_in}
use Rattle.ownership.specs.OnTable.{facts_of, lent_tests, stopped_at, table_step, done}
use Rattle.judging.specs.Loadable.{PortOf}
use Rattle.ownership.specs.Allowed.{Allowed}
use Rattle.ownership.proofs.Allowed.{allowed, allowed_passes}
use Rattle.ownership.proofs.Stops.{lent_both, lent_numbered, none_stops, none_stops_lent, pass_tests, stopped_is}
use Rattle.circuit_path.proofs.CircuitSound.{sound_open}
use Rattle.ownership.proofs.Steps.{table_step_lem}
use Rattle.cube.proofs.Ports.{most_nodes}
use Rattle.ownership.proofs.StepBytes.{blocking_again, unblocking_again, arming_again, disarming_again, folding_again}
use Rattle.ownership.proofs.BytesAfter.{bytes_written, written_bytes}

-- what the tests that have passed say of an open
pub may_open : (q : ℕ) (b : List ℕ) (s c t y v : ℕ) → stopped_at q b (opening s c t y v) ≡ 0 → MaySendIn (length_of q) b s t (circuit_of s c) v
unfolding Allowed facts_of view
may_open q b s c t y v e =
    let p = pass_tests q b (none_stops_lent q b (opening s c t y v) refl e) in
    let r = allowed (facts_of (view b)) (opening s c t y v) (none_stops q b (opening s c t y v) e) in
    record {
      bytes = p.0;
      fits = p.2;
      source = r.0;
      target = r.1;
      ports = no_bit_above _ v r.4;
      circuit = λ z. omega arith;
      small = omega (arith, most_nodes p.2, r.0, r.2);
    }

-- the numbers of an outcome, as an open gives them and as a send answers them
answer_same : (helps : Bool) (o : Outcome) (n : ℕ) (b : List ℕ)
    → answer_on_bytes (answered helps o n).number (hops_of (answered helps o n)) (receive_of (answered helps o n)) (scouts_of (answered helps o n)) b ≡ answer_of_outcome helps o n b
unfolding answered answer_of_outcome
answer_same helps (acknowledged w k) n b = refl
answer_same helps route_rejected n b = refl
answer_same helps receive_rejected n b = refl

module _ (q : ℕ) (width : Width q) (b : List ℕ) (s c t y v : ℕ) (e : stopped_at q b (opening s c t y v) ≡ 0) where
  -- what the open gives
  abbrev open_result : CallResult
  open_result = (table_step q b (opening s c t y v)).result

  -- What an open that no test stops before the search answers is what a send answers, whatever the bytes are.
  pub open_answers : SendSays q b s t (circuit_of s c) y v open_result.number (hops_of open_result) (receive_of open_result) (scouts_of open_result) (bytes_written q b (opening s c t y v))
  unfolding result_of facts_of bytes_written sent_on_bytes send_answer
  open_answers = rw ((table_step_lem q b (opening s c t y v)).result e) (demand_2 q width b s t (circuit_of s c) y v (may_open q b s c t y v e) _ _ _ _ _ (answer_same _ _ _ _))

  -- Promises 3 and Promises 4 of the open call: it says what a send says, in its answer and in every byte.
  pub open_says : AllBytes b → SendSays q b s t (circuit_of s c) y v open_result.number (hops_of open_result) (receive_of open_result) (scouts_of open_result) (table_step q b (opening s c t y v)).state
  open_says small = rw (sym (written_bytes q width b small (opening s c t y v) e)) at open_answers

-- In a sound table an open circuit stands, since a link that it holds tells so.
pub open_sound : (v : View) → Sound v → (c : ℕ) → c ≢ 0 → is_open_in v c ≡ true → CircuitSound v c
unfolding is_open_in
open_sound v sound c some e =
    let r = any_some (held_by v c (source_of c)) (ports (shape_of v)) e in
    let q = eqb-true _ c r.2 in
    subst (CircuitSound v) q (link_stands v sound (source_of c) r.0 (λ z. some (sym q ∙ z)))

-- On a sound table a send channel has an open circuit exactly where its number stands on a path and a receive channel.
pub open_stands : (w : View) → Sound w → (s c : ℕ) → (open_in w s c ≡ true) ↔ CircuitSound w (circuit_of s c)
unfolding open_in
open_stands w sound s c = (open_sound w sound (circuit_of s c) (λ z. omega arith), sound_open w (circuit_of s c))

-- Refusals 3 says that the table is not sound, of every call that is stopped by it.
no_three : (b : List ℕ) (a : Call) → refusal (call_tests (facts_of (view b)) a) ≢ 3
unfolding call_tests avoids
no_three b a = never_answered 3 (call_tests (facts_of (view b)) a) (others a) (λ z. omega arith)
  where
    others : (a : Call) → Avoids 3 (call_tests (facts_of (view b)) a)
    others (making D) = avoiding 3 _ refl
    others (blocking n p) = avoiding 3 _ refl
    others (unblocking n p) = avoiding 3 _ refl
    others (opening s c t y v) = avoiding 3 _ refl
    others (closing s c) = avoiding 3 _ refl
    others (tracing s c buffer) = avoiding 3 _ refl
    others (arming n k) = avoiding 3 _ refl
    others (disarming n k) = avoiding 3 _ refl
    others (opening_all sends) = avoiding 3 _ refl
    others (booking ports index) = avoiding 3 _ refl
    others (judging ports index circuits hops) = unfold judge_tests in avoiding 3 _ refl
    others (folding mask) = avoiding 3 _ refl

pub stopped_three : (q : ℕ) (b : List ℕ) (a : Call) → stopped_at q b a ≡ 3 → Sound (view b) → ⊥
unfolding stopped_at avoids
stopped_three q b a e sound =
    ⊎_elim (λ z. no_three b a (sym (refusal_after (lent_tests q b a) (call_tests (facts_of (view b)) a) (lent_numbered q b a) z) ∙ e))
    (λ f. lent (sym (refusal_before (lent_tests q b a) (call_tests (facts_of (view b)) a) f) ∙ e)) (same? (refusal (lent_tests q b a)) 0)
  where
    lent : refusal (lent_tests q b a) ≢ 3
    lent = lent_both q (λ ts. refusal ts ≢ 3) b a (never_answered 3 _ (avoiding 3 _ refl) (λ z. omega arith)) (λ z. (answers q b).not_sound z sound)

-- Calls 10 to 13, Folding 7: on any table that passes its tests, a call for what is so already is accepted and changes nothing, be it a link that is
-- blocked or enabled, a channel that is armed or not, or the fold mask.
module _ (q : ℕ) (width : Width q) (b : List ℕ) (small : AllBytes b) (pass : refusal (table_tests q b) ≡ 0) where
  bytes : BytesOver q b
  bytes = record { long = (pass_tests q b pass).0; small = small }

  leaves_all : (a : Call) → Allowed (facts_of (view b)) a → result_of (facts_of (view b)) a ≡ only 0 → (table_step q b a).state ≡ b
      → table_step q b a ≡ done b 0 [] []
  leaves_all a may gives same =
      let r = pass_tests q b pass in
      let z : stopped_at q b a ≡ 0 = stopped_is q b r.0 r.1 r.2 r.3 a ∙ allowed_passes (facts_of (view b)) a may in
      λ i. record { state = same i; result = ((table_step_lem q b a).result z ∙ gives) i }

  module _ (n p : ℕ) (i : NodeOf (dimension_at b) n) (l : PortOf (dimension_at b) (fold_at b) p) where
    idle : enabled_at b n p ≡ false → held_in (view b) n p ≡ false
    unfolding held_in view
    idle e =
        ⊎_elim (λ z. ap not (eq-eqb (owner_at b n p) 0 z)) (λ f. absurd (clash (unfold view in (pass_tests q b pass).3.held_enabled n p f) e))
        (same? (owner_at b n p) 0)

    pub blocked_again : enabled_at b n p ≡ false → table_step q b (blocking n p) ≡ done b 0 [] []
    unfolding Allowed facts_of view result_of
    blocked_again e = leaves_all (blocking n p) (i, l, idle e) refl (blocking_again q width b bytes n p e)

    pub enabled_again : enabled_at b n p ≡ true → table_step q b (unblocking n p) ≡ done b 0 [] []
    unfolding Allowed facts_of view result_of
    enabled_again e = leaves_all (unblocking n p) (i, l) refl (unblocking_again q width b bytes n p e)

  module _ (n k : ℕ) (i : NodeOf (dimension_at b) n) (l : k < channels) where
    untaken : armed_at b n k ≡ false → taken_in (view b) n k ≡ false
    unfolding taken_in view
    untaken e =
        ⊎_elim (λ z. ap not (eq-eqb (receiver_at b n k) 0 z)) (λ f. absurd (clash (unfold view in (pass_tests q b pass).3.held_armed n k f) e))
        (same? (receiver_at b n k) 0)

    pub armed_again : armed_at b n k ≡ true → table_step q b (arming n k) ≡ done b 0 [] []
    unfolding Allowed facts_of view result_of
    armed_again e = leaves_all (arming n k) (i, l) refl (arming_again q width b bytes n k e)

    pub disarmed_again : armed_at b n k ≡ false → table_step q b (disarming n k) ≡ done b 0 [] []
    unfolding Allowed facts_of view result_of
    disarmed_again e = leaves_all (disarming n k) (i, l, untaken e) refl (disarming_again q width b bytes n k e)

  -- Folding 7: the same mask as before changes nothing.
  pub folded_again : table_step q b (folding (fold_at b)) ≡ done b 0 [] []
  unfolding Allowed facts_of view result_of
  folded_again =
      let below : (p : ℕ) → has (fold_at b) p ≡ true → p < dimension_at b = unfold view in (pass_tests q b pass).3.fold_bits in
      leaves_all (folding (fold_at b)) ((λ p l. is_false _ (λ on. omega (arith, l, below p on))), λ p l on off n i. absurd (clash on off)) refl
      (folding_again q width b bytes (pass_tests q b pass).3)
