-- What a call answers where a test stops it and where none does.
-- Assumes nothing.
use mathlib.Core.Path.{◌≡◌, refl, ap, ap₂, sym, ◌∙◌}
use mathlib.Core.Logic.{◌≢◌, inr}
use mathlib.Core.Bool.{true, false, not, ◌&&◌, and-false, Bool}
use mathlib.Core.List.{List, [], ◌∷◌}
use Prim.Native.Nat.{ℕ, ◌^◌, ◌≤◌, ◌<◌}
use native.Mathlib.Omega.{arith}
use lib.Dec.{leb}
use lib.ListN.{length}
use borrow.Author.Tests.{ne_eqb, le-leb, lt-leb}
use Rattle.common.specs.Refusals.{number_of}
use Rattle.common.specs.declared.refusal.Refusal.{Refusal}
use Rattle.common.proofs.Refusals as refusals
use Rattle.common.proofs.Tests.{refused, passed, accepted}
use Rattle.cube.specs.Cube.{largest_dimension, circuit_of}
use Rattle.paths.specs.Send.{Outcome, acknowledged, route_rejected, receive_rejected}
use Rattle.cube.proofs.Ports.{most_nodes}
use Rattle.layout.specs.Layout.{wide_ports, wide_length, length_of, dimension_at}
use Rattle.layout.specs.Resources.{Width}
use Rattle.table.specs.Encode.{encode_over, AllBytes}
use Rattle.entries.specs.EntryContracts.{put_enabled, put_armed}
use Rattle.table.specs.View.{view, without_circuit, fresh}
use Rattle.table.specs.Folding.{set_fold}
use Rattle.table.specs.TableContracts.{EnablesFit}
use Rattle.soundness.proofs.Deciding.{sound_enables}
use Rattle.circuit_path.specs.PathOf.{path_of}
use Rattle.circuit_path.specs.Traced.{traced_into}
use Rattle.ownership.specs.Calls.{Call, making, blocking, unblocking, opening, closing, tracing, arming, disarming, folding, CallResult, refused_with, answered, call_tests, result_of, After}
use Rattle.answers.specs.SendOnTable.{AnswerOnBytes, answer_on_bytes, answer_of_outcome, waiting_helps, send_in}
use Rattle.answers.specs.declared.Acknowledged.{Acknowledged}
use Rattle.answers.specs.declared.Rejected.{Rejected}
use Rattle.answers.specs.Opens.{opened_number, opened_values}
use Rattle.answers.specs.PassOnBytes.{opened_answer}
use Rattle.std.proofs.Common.{Result, Ok, Err}
use Rattle.answers.specs.SendAnswer.{send_answer, sent_on_bytes}
use Rattle.ownership.specs.OnTable.{facts_of, lent_tests, stopped_at, table_step, done}
use Rattle.ownership.proofs.Stops.{making_stopped}
use Rattle.ownership.proofs.Steps.{table_step_lem}
use Rattle.call_tests.proofs.Stopping.{close_small, close_sound, close_open, trace_closes, trace_room, open_small, open_vector, fold_passed}
use Rattle.ownership.proofs.BytesAfter.{bytes_written, written_bytes}

-- A call that a test stops changes nothing. One that no test stops gives its result, and the bytes are those that the functions below write.
module _ (q : ℕ) (b : List ℕ) (a : Call) where
  pub call_stopped : {n : ℕ} → n ≡ stopped_at q b a → n ≢ 0 → record { state = b; result = refused_with n a } ≡ table_step q b a
  call_stopped e f = sym ((table_step_lem q b a).stopped (λ z. f (e ∙ z)) ∙ ap (λ i. record { state = b; result = refused_with i a }) (sym e))

  pub call_refused : (x : Refusal) → number_of x ≡ stopped_at q b a → record { state = b; result = refused_with (number_of x) a } ≡ table_step q b a
  call_refused x e = call_stopped e (refusals.refused x)

  pub call_passed : Width q → 0 ≡ stopped_at q b a → AllBytes b → {b₁ : List ℕ} {g : CallResult} → b₁ ≡ bytes_written q b a → g ≡ result_of (facts_of (view b)) a
      → record { state = b₁; result = g } ≡ table_step q b a
  call_passed width e small w r =
      λ i. record { state = (w ∙ sym (written_bytes q width b small a (sym e))) i; result = (r ∙ sym ((table_step_lem q b a).result (sym e))) i }

module _ (q : ℕ) (b : List ℕ) where
  -- a making
  module _ (D : ℕ) where
    pub make_length : length b ≢ length_of q → done b 1 [] [] ≡ table_step q b (making D)
    make_length f = call_stopped q b (making D) {n = 1} (sym (unfold stopped_at lent_tests in refused 1 _ (ap not (ne_eqb (length b) (length_of q) f)))) (λ z. omega arith)

    -- Refusals 2: the dimension is not 1 to 8.
    outside : length b ≡ length_of q → (leb 1 D && leb D 8) ≡ false → done b 2 [] [] ≡ table_step q b (making D)
    unfolding call_tests
    outside e f = call_stopped q b (making D) {n = 2} (sym (making_stopped q b e D ∙ refused 2 [] (ap not f))) (λ z. omega arith)

    pub make_zero : length b ≡ length_of q → D ≡ 0 → done b 2 [] [] ≡ table_step q b (making D)
    make_zero e z = outside e (ap (◌&& leb D 8) (lt-leb 1 D (omega (arith, z))))

    pub make_large : length b ≡ length_of q → largest_dimension < D → done b 2 [] [] ≡ table_step q b (making D)
    make_large e h = outside e (ap (leb 1 D &&◌) (lt-leb D 8 h) ∙ and-false (leb 1 D))

module _ {q : ℕ} (width : Width q) (b : List ℕ) where
  pub make_made : (D : ℕ) → length b ≡ length_of q → AllBytes b → D ≢ 0 → D ≤ largest_dimension → {b₁ : List ℕ} → b₁ ≡ encode_over q (fresh D) → done b₁ 0 [] [] ≡ table_step q b (making D)
  unfolding call_tests bytes_written result_of
  make_made D e small f h w = call_passed q b (making D) width (sym (making_stopped q b e D ∙ passed 2 [] (ap not (ap₂ ◌&&◌ (le-leb 1 D (omega (arith, f))) (le-leb D 8 h))) ∙ accepted)) small w refl

  -- a block, an unblock, an arming, a disarming and a close
  pub call_blocks : (n p : ℕ) → 0 ≡ stopped_at q b (blocking n p) → AllBytes b → {b₁ : List ℕ} → b₁ ≡ put_enabled b n p false → done b₁ 0 [] [] ≡ table_step q b (blocking n p)
  unfolding bytes_written result_of
  call_blocks n p e small w = call_passed q b (blocking n p) width e small w refl

  pub call_unblocks : (n p : ℕ) → 0 ≡ stopped_at q b (unblocking n p) → AllBytes b → {b₁ : List ℕ} → b₁ ≡ put_enabled b n p true → done b₁ 0 [] [] ≡ table_step q b (unblocking n p)
  unfolding bytes_written result_of
  call_unblocks n p e small w = call_passed q b (unblocking n p) width e small w refl

  pub call_arms : (n k : ℕ) → 0 ≡ stopped_at q b (arming n k) → AllBytes b → {b₁ : List ℕ} → b₁ ≡ put_armed b n k true
      → done b₁ 0 [] [] ≡ table_step q b (arming n k)
  unfolding bytes_written result_of
  call_arms n k e small w = call_passed q b (arming n k) width e small w refl

  pub call_disarms : (n k : ℕ) → 0 ≡ stopped_at q b (disarming n k) → AllBytes b → {b₁ : List ℕ} → b₁ ≡ put_armed b n k false
      → done b₁ 0 [] [] ≡ table_step q b (disarming n k)
  unfolding bytes_written result_of
  call_disarms n k e small w = call_passed q b (disarming n k) width e small w refl

  pub call_closes : (s c : ℕ) → 0 ≡ stopped_at q b (closing s c) → AllBytes b → {k : ℕ} → k ≡ circuit_of s c → {b₁ : List ℕ} → b₁ ≡ encode_over q (without_circuit (view b) k) → done b₁ 0 [] [] ≡ table_step q b (closing s c)
  unfolding bytes_written result_of
  call_closes s c e small is r = call_passed q b (closing s c) width e small (r ∙ ap (λ i. encode_over q (without_circuit (view b) i)) is) refl

  -- an open: what the search comes to is what it gives
  pub call_opens : (s c t y v : ℕ) → 0 ≡ stopped_at q b (opening s c t y v) → AllBytes b → {k : ℕ} → k ≡ circuit_of s c → (r : Result Acknowledged Rejected) {b₁ : List ℕ} → opened_answer r b₁ ≡ sent_on_bytes b s t k y v
      → done b₁ (opened_number r) (opened_values r) [] ≡ table_step q b (opening s c t y v)
  unfolding bytes_written result_of facts_of sent_on_bytes send_answer
  call_opens s c t y v e small is r {b₁} g =
      sym (shown_answer r) ∙ ap shown (g ∙ ap (λ i. sent_on_bytes b s t i y v) is) ∙ shown_same (waiting_helps (view b) s t y v) (send_in (view b) s t y v).outcome _ _ ∙ call_passed q b (opening s c t y v) width e small refl refl
    where
      shown : AnswerOnBytes → After (List ℕ)
      shown (answer_on_bytes x h r n b₁) = done b₁ x (h ∷ r ∷ n ∷ []) []

      shown_answer : (r : Result Acknowledged Rejected) → shown (opened_answer r b₁) ≡ done b₁ (opened_number r) (opened_values r) []
      shown_answer (Ok a) = refl
      shown_answer (Err a) = refl

      shown_same : (helps : Bool) (o : Outcome) (n : ℕ) (b₁ : List ℕ) → shown (answer_of_outcome helps o n b₁) ≡ record { state = b₁; result = answered helps o n }
      shown_same helps (acknowledged w k) n b₁ = unfold answered answer_of_outcome in refl
      shown_same helps route_rejected n b₁ = unfold answered answer_of_outcome in refl
      shown_same helps receive_rejected n b₁ = unfold answered answer_of_outcome in refl

  -- a trace
  pub call_traces : (s c : ℕ) (buffer : List ℕ) → 0 ≡ stopped_at q b (tracing s c buffer) → AllBytes b → {k : ℕ} → k ≡ circuit_of s c → {h : ℕ} {after : List ℕ}
      → h ≡ length (path_of (view b) k) → after ≡ traced_into (path_of (view b) k) buffer → done b 0 (h ∷ []) (after ∷ []) ≡ table_step q b (tracing s c buffer)
  unfolding bytes_written result_of facts_of
  call_traces s c buffer e small is l w = call_passed q b (tracing s c buffer) width e small refl (rw (l, w, is))

-- the setting of a fold mask
module _ (b : List ℕ) (mask : ℕ) (e : 0 ≡ stopped_at wide_ports b (folding mask)) where
  pub call_folds : AllBytes b → {b₁ : List ℕ} → b₁ ≡ encode_over wide_ports (set_fold (view b) mask) → done b₁ 0 [] [] ≡ table_step wide_ports b (folding mask)
  unfolding bytes_written result_of
  call_folds small w = call_passed wide_ports b (folding mask) (inr refl) e small w refl

  pub fold_byte : mask < 256
  fold_byte = let r = fold_passed e in omega (arith, r.1, most_nodes r.0.most)

  pub fold_long : length b ≡ wide_length
  fold_long = (fold_passed e).0.long

  pub fold_fits : dimension_at b ≤ largest_dimension
  fold_fits = (fold_passed e).0.most

  pub fold_bits_below : mask < 2 ^ dimension_at b
  fold_bits_below = (fold_passed e).1

  pub fold_enables : AllBytes b → EnablesFit b
  fold_enables small = sound_enables b small (fold_passed e).0.sound

-- With these the check proves what each call answers that a test stops, and what its functions ask.
pub ruleset steps = (call_refused, close_small, close_sound, close_open, trace_closes, trace_room)

pub ruleset opens = (call_refused, open_small, open_vector)

pub ruleset folds = (call_refused, fold_byte, fold_long, fold_fits, fold_bits_below)
