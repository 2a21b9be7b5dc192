-- A refused call: no byte that it is lent alters, and its answer carries nothing beside its number but the scouts of a rejected search.
-- Assumes nothing.
use mathlib.Core.Path.{◌≡◌, refl, ◌∙◌}
use mathlib.Core.Logic.{◌⊎◌, inl, inr, ⊎_elim, ◌≢◌}
use mathlib.Core.List.{List, [], ◌∷◌, ◌++◌}
use Prim.Native.Nat.{ℕ}
use lib.ListN.{replicate}
use Rattle.common.proofs.Tests.{same?}
use Rattle.paths.specs.Send.{Outcome, acknowledged, route_rejected, receive_rejected}
use Rattle.table.specs.View.{view}
use Rattle.ownership.specs.Calls.{Call, making, blocking, unblocking, opening, closing, tracing, arming, disarming, opening_all, booking, judging, folding, form, lent}
use Rattle.ownership.specs.Sends.{sends_in}
use Rattle.ownership.specs.Calls.{CallResult, scouts_of, answered, CallFacts, result_of}
use Rattle.ownership.specs.OnTable.{facts_of, stopped_at, table_step}
use Rattle.ownership.specs.Agrees.{table_after, after_calls}
use Rattle.ownership.proofs.Steps.{table_step_lem}
use mathlib.Core.Bool.{Bool, true, false}

-- Calls 6: refused, each value is 0, except that 10, 11 and 22 come with their scouts; a job that a send's refusal ends gives the send's place.
abbrev pub Zero : Call → CallResult → Type 0
Zero a g =
    (g.values ≡ replicate (form a).value_count 0) ⊎ (((g.number ≡ 10) ⊎ (g.number ≡ 22) ⊎ (g.number ≡ 11)) × (g.values ≡ 0 ∷ 0 ∷ scouts_of g ∷ []))
    ⊎ ((sends : List ℕ) × (place : ℕ) × (a ≡ opening_all sends) × (g.values ≡ place ∷ []))

-- what a call that no test stops gives where it is refused: its buffers as they were lent, and such values
send_zero : (a : Call) (helps : Bool) (o : Outcome) (n : ℕ) → (answered helps o n).number ≢ 0 → ((answered helps o n).buffers ≡ []) × Zero a (answered helps o n)
unfolding answered
send_zero a helps (acknowledged w k) n f = absurd (f refl)
send_zero a true route_rejected n f = (refl, inr (inl (inl refl, refl)))
send_zero a false route_rejected n f = (refl, inr (inl (inr (inl refl), refl)))
send_zero a helps receive_rejected n f = (refl, inr (inl (inr (inr refl), refl)))

result_refused : (f : CallFacts) (a : Call) → (result_of f a).number ≢ 0 → ((result_of f a).buffers ≡ lent a) × Zero a (result_of f a)
unfolding result_of
result_refused f (making D) h = absurd (h refl)
result_refused f (blocking n p) h = absurd (h refl)
result_refused f (unblocking n p) h = absurd (h refl)
result_refused f (opening s c t y v) h = send_zero (opening s c t y v) (f.waiting s t y v) (f.sends s t y v).outcome _ h
result_refused f (closing s c) h = absurd (h refl)
result_refused f (tracing s c buffer) h = absurd (h refl)
result_refused f (arming n k) h = absurd (h refl)
result_refused f (disarming n k) h = absurd (h refl)
result_refused f (booking ports index) h = absurd (h refl)
result_refused f (judging ports index circuits hops) h = absurd (h refl)
result_refused f (folding mask) h = absurd (h refl)
result_refused f (opening_all sends) h = (refl, inr (inr (sends, (f.job (sends_in sends)).sends, refl, refl)))

module _ (q : ℕ) (b : List ℕ) (a : Call) (f : (table_step q b a).result.number ≢ 0) where
  refused_result : ((table_step q b a).result.buffers ≡ lent a) × Zero a (table_step q b a).result
  refused_result =
      ⊎_elim (λ z. let e = (table_step_lem q b a).result z in rw e (result_refused (facts_of (view b)) a (rw e at f)))
      (λ z. rw ((table_step_lem q b a).stopped z) (refl, inl refl)) (same? (stopped_at q b a) 0)

  -- Calls 5, of any call on any bytes.
  pub refused_leaves : ((table_step q b a).state ≡ b) × ((table_step q b a).result.buffers ≡ lent a)
  refused_leaves = ((table_step_lem q b a).refused f, refused_result.0)

  -- and its values are so.
  pub refused_zero : Zero a (table_step q b a).result
  refused_zero = refused_result.1

-- so wherever it stands in a list of calls, it leaves the table that it met
after_all : (q : ℕ) (before : List Call) (b : List ℕ) (a : Call) → table_after q b (before ++ a ∷ []) ≡ (table_step q (table_after q b before) a).state
unfolding after_calls
after_all q [] b a = refl
after_all q (x ∷ before) b a = after_all q before (table_step q b x).state a

pub refused_within : (q : ℕ) (before : List Call) (b : List ℕ) (a : Call) → (table_step q (table_after q b before) a).result.number ≢ 0
    → (table_after q b (before ++ a ∷ []) ≡ table_after q b before) × ((table_step q (table_after q b before) a).result.buffers ≡ lent a)
refused_within q before b a f = let r = refused_leaves q (table_after q b before) a f in (after_all q before b a ∙ r.0, r.1)
