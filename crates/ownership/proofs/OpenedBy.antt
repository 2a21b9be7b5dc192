-- Each listed circuit has the path and the receive channel of an acknowledged open of the list, and no accepted call after that open ends it.
-- Assumes nothing.
use mathlib.Core.Path.{◌≡◌, refl, ap, sym, subst}
use mathlib.Core.Logic.{◌⊎◌, inl, inr, ⊎_elim}
use mathlib.Core.Bool.{not}
use mathlib.Core.List.Memᴰ
use mathlib.Core.List.{List, [], ◌∷◌}
use Prim.Native.Nat.{ℕ}
use native.Mathlib.Omega.{arith}
use Rattle.common.specs.Lists.{◌∈◌}
use borrow.Author.Tests.{not-true}
use Rattle.common.proofs.Tests.{same?, clash}
use Rattle.common.proofs.Lists.{keep_mem}
use Rattle.paths.specs.Send.{Outcome, acknowledged, route_rejected, receive_rejected}
use Rattle.ownership.specs.Calls.{Call, making, blocking, unblocking, opening, closing, tracing, arming, disarming, opening_all, booking, judging, folding}
use Rattle.ownership.specs.History.{Circuit, History, belongs, stopped_on, send_on, with_fold, with_opened, applied, history_step}
use Rattle.ownership.specs.Agrees.{history_after, history_results, after_calls, call_results}
use Rattle.ownership.specs.StillOpen.{counts_as, with_answers, counted, Ends, Lasts, OpenedBy}
use Rattle.ownership.specs.Closing.{Each, no_call, call_more}
use Rattle.ownership.proofs.Counted.{Single, counted_after, counted_single}
use Rattle.ownership.proofs.Circuits.{parts_belong}
use Rattle.ownership.proofs.Steps.{history_step_lem}

-- one call: what is listed after it was listed before, or is what it opened
record New (h : History) (a : Call) (x : Circuit) : Type 0 where
  type : ℕ
  vector : ℕ
  is_open : a ≡ opening x.source x.channel x.target type vector
  acknowledges : (send_on h x.source x.target type vector).outcome ≡ acknowledged x.ports x.receive

added : (h : History) (s c t y v : ℕ) (o : Outcome) → (send_on h s t y v).outcome ≡ o → (x : Circuit) → x ∈ (with_opened h s c t o).circuits → (x ∈ h.circuits) ⊎ New h (opening s c t y v) x
unfolding with_opened
added h s c t y v (acknowledged w k) e x m =
    ⊎_elim (λ z. inr (subst (λ (u : Circuit). New h (opening s c t y v) u) (sym z) record { type = y; vector = v; is_open = refl; acknowledges = e })) inl (Memᴰ.cases_cons m)
added h s c t y v route_rejected e x m = inl m
added h s c t y v receive_rejected e x m = inl m

listed_or_new : (h : History) (a : Call) → Single a → (x : Circuit) → x ∈ (applied h a).circuits → (x ∈ h.circuits) ⊎ New h a x
unfolding applied counts_as
listed_or_new h (making D) single x m = absurd (Memᴰ.not-nil m)
listed_or_new h (blocking n p) single x m = inl m
listed_or_new h (unblocking n p) single x m = inl m
listed_or_new h (opening s c t y v) single x m = added h s c t y v (send_on h s t y v).outcome refl x m
listed_or_new h (closing s c) single x m = inl (keep_mem _ h.circuits m).0
listed_or_new h (tracing s c buffer) single x m = inl m
listed_or_new h (arming n k) single x m = inl m
listed_or_new h (disarming n k) single x m = inl m
listed_or_new h (booking ports index) single x m = inl m
listed_or_new h (judging ports index circuits hops) single x m = inl m
listed_or_new h (folding mask) single x m = inl (unfold with_fold in m)
listed_or_new h (opening_all sends) single x m = let u : ◌≡◌ {A = ℕ} 0 1 = cc (single 1) in absurd (omega arith)

step : (h : History) (a : Call) → Single a → (x : Circuit) → x ∈ (history_step h a).state.circuits → (x ∈ h.circuits) ⊎ ((stopped_on h a ≡ 0) × New h a x)
step h a single x m =
    let g = history_step_lem h a in
    ⊎_elim (λ e. ⊎_elim inl (λ z. inr (g.passed e, z)) (listed_or_new h a single x (rw (g.accepted e) at m))) (λ f. inl (rw (g.refused f) at m)) (same? (history_step h a).result.number 0)

-- what is listed after an accepted call was not ended by it
ended : (h : History) (a : Call) (x : Circuit) → x ∈ (applied h a).circuits → Ends x.source x.channel a → ⊥
unfolding applied Ends
ended h (making D) x m z = Memᴰ.not-nil m
ended h (blocking n p) x m z = z
ended h (unblocking n p) x m z = z
ended h (opening s c t y v) x m z = z
ended h (closing s c) x m z = clash (parts_belong s c x (sym z.0) (sym z.1)) (not-true _ (keep_mem (λ y. not (belongs s c y)) h.circuits m).1)
ended h (tracing s c buffer) x m z = z
ended h (arming n k) x m z = z
ended h (disarming n k) x m z = z
ended h (opening_all sends) x m z = z
ended h (booking ports index) x m z = z
ended h (judging ports index circuits hops) x m z = z
ended h (folding mask) x m z = z

lasted : (h : History) (a : Call) (x : Circuit) → x ∈ (history_step h a).state.circuits → (history_step h a).result.number ≡ 0 → Ends x.source x.channel a → ⊥
lasted h a x m e z = ended h a x (rw ((history_step_lem h a).accepted e) at m) z

-- an open of a list is one of the list with a call in front
pub opened_later : (h : History) (a : Call) (more : List Call) (x : Circuit) → OpenedBy (history_step h a).state more x → OpenedBy h (a ∷ more) x
unfolding after_calls
opened_later h a more x z =
    record { before = a ∷ z.before; type = z.type; vector = z.vector; after = z.after; split = ap (a ∷◌) z.split; not_stopped = z.not_stopped; acknowledges = z.acknowledges; lasts = z.lasts }

-- any list of single calls: what is listed after it was listed before and nothing has ended it, or was opened by it
abbrev ListedBy : History → List Call → Circuit → Type 0
ListedBy h calls x = ((x ∈ h.circuits) × Lasts x.source x.channel (with_answers calls (history_results h calls))) ⊎ OpenedBy h calls x

singly_listed : {calls : List Call} → Each Single calls → (h : History) (x : Circuit) → x ∈ (history_after h calls).circuits → ListedBy h calls x
unfolding after_calls call_results with_answers Lasts
singly_listed no_call h x m = inl (m, λ a k z. Memᴰ.not-nil k)
singly_listed (call_more {a} {calls = more} single rest) h x m =
    ⊎_elim (λ k. ⊎_elim (λ i. inl (i, rw (single (history_step h a).result.number) (later k.0 k.1))) (λ z. inr (now z k.1)) (step h a single x k.0)) (λ z. inr (opened_later h a more x z)) (singly_listed rest (history_step h a).state x m)
  where
    later : x ∈ (history_step h a).state.circuits → Lasts x.source x.channel (with_answers more (history_results (history_step h a).state more)) → Lasts x.source x.channel ((a, (history_step h a).result.number) ∷ with_answers more (history_results (history_step h a).state more))
    later k l b i z =
        ⊎_elim (λ e. lasted h a x k (sym (ap (λ (u : Call × ℕ). u.1) e)) (subst (Ends x.source x.channel) (ap (λ (u : Call × ℕ). u.0) e) z)) (λ j. l b j z) (Memᴰ.cases_cons i)

    now : (stopped_on h a ≡ 0) × New h a x → Lasts x.source x.channel (with_answers more (history_results (history_step h a).state more)) → OpenedBy h (a ∷ more) x
    now z l =
        let e = z.1.is_open in
        record {
          before = [];
          type = z.1.type;
          vector = z.1.vector;
          after = more;
          split = ap (◌∷ more) e;
          not_stopped = subst (λ (u : Call). stopped_on h u ≡ 0) e z.0;
          acknowledges = z.1.acknowledges;
          lasts = subst (λ (u : Call). Lasts x.source x.channel (with_answers more (history_results (history_step h u).state more))) e l;
        }

-- any list: by what its calls count as
pub listed_by : (calls : List Call) (h : History) (x : Circuit) → x ∈ (history_after h calls).circuits → ListedBy h (counted h calls) x
listed_by calls h x m = singly_listed (counted_single calls h) h x (rw (← counted_after calls h) at m)
