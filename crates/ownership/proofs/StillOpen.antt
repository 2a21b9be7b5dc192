-- After a list of calls a send channel is open in the history exactly where the list has an acknowledged open of it, and no accepted making and no
-- accepted close of it afterwards.
-- Assumes nothing.
use mathlib.Core.Path.{◌≡◌, refl, sym, ◌∙◌, ap, subst}
use mathlib.Core.Logic.{◌⊎◌, inl, inr, ⊎_elim, ◌↔◌}
use mathlib.Core.Bool.{Bool, true, not, ◌&&◌, false}
use mathlib.Core.List.Memᴰ
use mathlib.Core.List.{List, [], ◌∷◌, ◌++◌}
use Prim.Native.Nat.{ℕ}
use native.Mathlib.Omega.{arith}
use lib.Dec.{eqb}
use borrow.Author.Tests.{eqb-true, eq-eqb, not-true}
use Rattle.common.specs.Lists.{any, keep}
use Rattle.common.proofs.Tests.{same?, clash, is_false, both, and, either, or_left, or_right}
use Rattle.common.proofs.Lists.{keep_mem, mem_keep, any_some, some_any}
use Rattle.paths.specs.Send.{Outcome, acknowledged, route_rejected, receive_rejected}
use Rattle.ownership.specs.Calls.{Call, making, blocking, unblocking, opening, closing, tracing, arming, disarming, opening_all, booking, judging, folding, CallResult, answered, result_of}
use Rattle.ownership.specs.History.{Circuit, History, belongs, open_on, facts_on, stopped_on, send_on, with_fold, with_opened, applied, history_step, waiting_on, new_history}
use Rattle.ownership.specs.Agrees.{history_after, history_results, after_calls, call_results}
use Rattle.ownership.specs.StillOpen.{counts_as, with_answers, Ends, Lasts, StillOpen}
use Rattle.ownership.specs.Closing.{Each, no_call, call_more}
use Rattle.ownership.proofs.Counted.{Single, counted_after, counted_numbers, counted_single}
use Rattle.ownership.proofs.Circuits.{belongs_parts, parts_belong}
use Rattle.ownership.proofs.Steps.{history_step_lem}

module _ (s c : ℕ) where
  -- a call that answered n is an acknowledged open of the channel
  abbrev Opens : Call → ℕ → Type 0
  Opens a n = (t : ℕ) × (y : ℕ) × (v : ℕ) × (a ≡ opening s c t y v) × (n ≡ 0)

  -- it leaves the channel open where it was
  abbrev Spares : Call → ℕ → Type 0
  Spares a n = n ≡ 0 → Ends s c a → ⊥

  -- ONE CALL: from a history, to the next, answering n
  record Step (h next : History) (a : Call) (n : ℕ) : Type 0 where
    from_next : open_on next s c ≡ true → Opens a n ⊎ ((open_on h s c ≡ true) × Spares a n)
    opens : Opens a n → open_on next s c ≡ true
    spares : open_on h s c ≡ true → Spares a n → open_on next s c ≡ true

  -- a call that changes no circuit
  step_same : (h next : History) (a : Call) (n : ℕ) → open_on next s c ≡ open_on h s c → (Opens a n → ⊥) → Spares a n → Step h next a n
  step_same h next a n e no_open spare = record { from_next = λ o. inr (sym e ∙ o, spare); opens = λ o. absurd (no_open o); spares = λ o z. e ∙ o }

  -- an accepted making
  step_making : (h : History) (D : ℕ) → Step h (new_history D) (making D) 0
  unfolding open_on any Ends
  step_making h D =
      record {
        from_next = λ o. absurd (clash o refl);
        opens = λ o. let u : ◌≡◌ {A = ℕ} 0 1 = cc o.3 in absurd (omega arith);
        spares = λ o spare. absurd (spare refl tt);
      }

  -- an acknowledged open
  step_opening : (h : History) (m d t y v k : ℕ) (helps : Bool) (o : Outcome) → (answered helps o k).number ≡ 0 → Step h (with_opened h m d t o) (opening m d t y v) 0
  unfolding with_opened open_on any belongs answered
  step_opening h m d t y v k helps (acknowledged w j) z =
      record {
        from_next = λ o. ⊎_elim (λ e. inl (new (both (eqb m s) (eqb d c) e))) (λ e. inr (e, λ z ends. unfold Ends in absurd ends)) (either (eqb m s && eqb d c) (any (belongs s c) h.circuits) o);
        opens = λ o. let e : m ≡ s = cc o.3 in let f : d ≡ c = cc o.3 in or_left _ (and (eq-eqb m s e) (eq-eqb d c f));
        spares = λ o spare. or_right (eqb m s && eqb d c) o;
      }
    where
      new : (eqb m s ≡ true) × (eqb d c ≡ true) → Opens (opening m d t y v) 0
      new r = (t, y, v, (λ i. opening (eqb-true m s r.0 i) (eqb-true d c r.1 i) t y v), refl)
  step_opening h m d t y v k true route_rejected z = absurd (omega (arith, z))
  step_opening h m d t y v k false route_rejected z = absurd (omega (arith, z))
  step_opening h m d t y v k helps receive_rejected z = absurd (omega (arith, z))

  -- an accepted close
  step_closing : (h : History) (m d : ℕ) → Step h (applied h (closing m d)) (closing m d) 0
  unfolding applied open_on Ends
  step_closing h m d =
      record {
        from_next = λ o.
            let r = any_some (belongs s c) left o in
            let k = keep_mem other h.circuits r.1 in
            inr (some_any (belongs s c) h.circuits k.0 r.2, λ u ends. clash (mine r.0 r.2 ends) (not-true _ k.1));
        opens = λ o. let u : ◌≡◌ {A = ℕ} 0 1 = cc o.3 in absurd (omega arith);
        spares = λ o spare.
            let r = any_some (belongs s c) h.circuits o in
            some_any (belongs s c) left (mem_keep other h.circuits r.1 (ap not (is_false _ (λ e. spare refl (owned r.0 r.2 e))))) r.2;
      }
    where
      other : Circuit → Bool
      other x = not (belongs m d x)

      left : List Circuit
      left = keep other h.circuits

      mine : (x : Circuit) → belongs s c x ≡ true → (m ≡ s) × (d ≡ c) → belongs m d x ≡ true
      mine x e ends = let r = belongs_parts s c x e in parts_belong m d x (r.0 ∙ sym ends.0) (r.1 ∙ sym ends.1)

      owned : (x : Circuit) → belongs s c x ≡ true → belongs m d x ≡ true → (m ≡ s) × (d ≡ c)
      owned x e f = let r = belongs_parts s c x e in let q = belongs_parts m d x f in (sym q.0 ∙ r.0, sym q.1 ∙ r.1)

  -- any accepted call, then any call
  step_accepted : (h : History) (a : Call) → Single a → (result_of (facts_on h) a).number ≡ 0 → Step h (applied h a) a 0
  unfolding applied result_of facts_on Ends open_on counts_as
  step_accepted h (making D) single e = step_making h D
  step_accepted h (blocking m p) single e =
      step_same h _ (blocking m p) 0 refl (λ o. let u : ◌≡◌ {A = ℕ} 0 1 = cc o.3 in absurd (omega arith)) (λ z ends. absurd ends)
  step_accepted h (unblocking m p) single e =
      step_same h _ (unblocking m p) 0 refl (λ o. let u : ◌≡◌ {A = ℕ} 0 1 = cc o.3 in absurd (omega arith)) (λ z ends. absurd ends)
  step_accepted h (opening m d t y v) single e = step_opening h m d t y v _ (waiting_on h m t y v) (send_on h m t y v).outcome e
  step_accepted h (closing m d) single e = step_closing h m d
  step_accepted h (tracing m d buffer) single e =
      step_same h h (tracing m d buffer) 0 refl (λ o. let u : ◌≡◌ {A = ℕ} 0 1 = cc o.3 in absurd (omega arith)) (λ z ends. absurd ends)
  step_accepted h (arming m k) single e =
      step_same h _ (arming m k) 0 refl (λ o. let u : ◌≡◌ {A = ℕ} 0 1 = cc o.3 in absurd (omega arith)) (λ z ends. absurd ends)
  step_accepted h (disarming m k) single e =
      step_same h _ (disarming m k) 0 refl (λ o. let u : ◌≡◌ {A = ℕ} 0 1 = cc o.3 in absurd (omega arith)) (λ z ends. absurd ends)
  step_accepted h (judging ports index circuits hops) single e =
      step_same h h (judging ports index circuits hops) 0 refl (λ o. let u : ◌≡◌ {A = ℕ} 0 1 = cc o.3 in absurd (omega arith)) (λ z ends. absurd ends)
  step_accepted h (booking ports index) single e =
      step_same h h (booking ports index) 0 refl (λ o. let u : ◌≡◌ {A = ℕ} 0 1 = cc o.3 in absurd (omega arith)) (λ z ends. absurd ends)
  step_accepted h (folding mask) single e =
      step_same h _ (folding mask) 0 (unfold with_fold in refl) (λ o. let u : ◌≡◌ {A = ℕ} 0 1 = cc o.3 in absurd (omega arith)) (λ z ends. absurd ends)
  step_accepted h (opening_all sends) single e = let u : ◌≡◌ {A = ℕ} 0 1 = cc (single 1) in absurd (omega arith)

  step_told : (h : History) (a : Call) → Single a → Step h (history_step h a).state a (history_step h a).result.number
  step_told h a single =
      let g = history_step_lem h a in
      ⊎_elim (λ e. rw (g.accepted e, e) (step_accepted h a single (rw (g.result (g.passed e)) at e))) (λ f. rw (g.refused f) (step_same h h a _ refl (λ o. f o.4) (λ z ends. f z)))
      (same? (history_step h a).result.number 0)

  -- LISTS, of calls with the numbers that they answered
  lasts_cons : (a : Call) (n : ℕ) (ps : List (Call × ℕ)) → Spares a n → Lasts s c ps → Lasts s c ((a, n) ∷ ps)
  unfolding Lasts
  lasts_cons a n ps spare l b m ends =
      ⊎_elim (λ e. spare (sym (ap (λ (x : Call × ℕ). x.1) e)) (subst (Ends s c) (ap (λ (x : Call × ℕ). x.0) e) ends)) (λ k. l b k ends) (Memᴰ.cases_cons m)

  lasts_first : (a : Call) (n : ℕ) (ps : List (Call × ℕ)) → Lasts s c ((a, n) ∷ ps) → Spares a n × Lasts s c ps
  unfolding Lasts
  lasts_first a n ps l = ((λ z ends. l a (Memᴰ.head (λ i. (a, sym z i))) ends), λ b m ends. l b (Memᴰ.tail m) ends)

  still_cons : (a : Call) (n : ℕ) (ps : List (Call × ℕ)) → StillOpen s c ps → StillOpen s c ((a, n) ∷ ps)
  still_cons a n ps o =
      record { before = (a, n) ∷ o.before; target = o.target; type = o.type; vector = o.vector; after = o.after; split = ap ((a, n) ∷◌) o.split; lasts = o.lasts }

  still_first : (a : Call) (n : ℕ) (ps : List (Call × ℕ)) → Opens a n → Lasts s c ps → StillOpen s c ((a, n) ∷ ps)
  still_first a n ps o l =
      record { before = []; target = o.0; type = o.1; vector = o.2; after = ps; split = (λ i. (o.3 i, o.4 i) ∷ ps); lasts = l }

  -- the open that `StillOpen` names
  abbrev the_open : {ps : List (Call × ℕ)} → StillOpen s c ps → Call × ℕ
  the_open o = (opening s c o.target o.type o.vector, 0)

  still_cases : (a : Call) (n : ℕ) (ps : List (Call × ℕ)) → StillOpen s c ((a, n) ∷ ps) → (Opens a n × Lasts s c ps) ⊎ StillOpen s c ps
  still_cases a n ps o = go o.before o.split
    where
      go : (before : List (Call × ℕ)) → (a, n) ∷ ps ≡ before ++ the_open o ∷ o.after → (Opens a n × Lasts s c ps) ⊎ StillOpen s c ps
      go [] e =
          let h : (a, n) ≡ the_open o = cc in
          let t : ps ≡ o.after = cc in
          inl ((o.target, o.type, o.vector, ap (λ (x : Call × ℕ). x.0) h, ap (λ (x : Call × ℕ). x.1) h), subst (Lasts s c) (sym t) o.lasts)
      go (b ∷ bs) e =
          let t : ps ≡ bs ++ the_open o ∷ o.after = cc in
          inr (record { before = bs; target = o.target; type = o.type; vector = o.vector; after = o.after; split = t; lasts = o.lasts })

  still_none : StillOpen s c [] → ⊥
  still_none o = go o.before o.split
    where
      go : (before : List (Call × ℕ)) → [] ≡ before ++ the_open o ∷ o.after → ⊥
      go [] e = let u : ◌≡◌ {A = ℕ} 0 1 = cc in absurd (omega arith)
      go (b ∷ bs) e = let u : ◌≡◌ {A = ℕ} 0 1 = cc in absurd (omega arith)

  -- the channel was opened in a list and stayed so, or was open in history h before it and stayed so
  abbrev OpenBy : History → List (Call × ℕ) → Type 0
  OpenBy h ps = StillOpen s c ps ⊎ ((open_on h s c ≡ true) × Lasts s c ps)

  by_one : (h next : History) (a : Call) (n : ℕ) → Step h next a n → (ps : List (Call × ℕ)) → OpenBy next ps ↔ OpenBy h ((a, n) ∷ ps)
  by_one h next a n step ps = (there, back)
    where
      there : OpenBy next ps → OpenBy h ((a, n) ∷ ps)
      there (inl o) = inl (still_cons a n ps o)
      there (inr r) = ⊎_elim (λ x. inl (still_first a n ps x r.1)) (λ x. inr (x.0, lasts_cons a n ps x.1 r.1)) (step.from_next r.0)

      back : OpenBy h ((a, n) ∷ ps) → OpenBy next ps
      back (inl o) = ⊎_elim (λ r. inr (step.opens r.0, r.1)) inl (still_cases a n ps o)
      back (inr r) = let l = lasts_first a n ps r.1 in inr (step.spares r.0 l.0, l.1)

  -- From any history on, by single calls
  abbrev ExactlyListed : History → List Call → Type 0
  ExactlyListed h calls =
      (open_on (history_after h calls) s c ≡ true) ↔ (StillOpen s c (with_answers calls (history_results h calls)) ⊎ ((open_on h s c ≡ true) × Lasts s c (with_answers calls (history_results h calls))))

  open_after_single : (h : History) {calls : List Call} → Each Single calls → ExactlyListed h calls
  unfolding after_calls call_results with_answers Lasts
  open_after_single h no_call = ((λ o. inr (o, λ a m. absurd (Memᴰ.not-nil m))), ⊎_elim (λ o. absurd (still_none o)) (λ r. r.0))
  open_after_single h (call_more {a} {calls = more} single rest) =
      let ih = open_after_single (history_step h a).state rest in
      let one = by_one h (history_step h a).state a (history_step h a).result.number (step_told h a single) (with_answers more (history_results (history_step h a).state more)) in
      rw (single (history_step h a).result.number) ((λ o. one.0 (ih.0 o)), λ r. ih.1 (one.1 r))

  -- and by any calls:
  pub open_after : (h : History) (calls : List Call)
      → (open_on (history_after h calls) s c ≡ true) ↔ (StillOpen s c (with_answers calls (history_results h calls)) ⊎ ((open_on h s c ≡ true) × Lasts s c (with_answers calls (history_results h calls))))
  open_after h calls = rw (← counted_after calls h, ← counted_numbers calls h) (open_after_single h (counted_single calls h))

  -- From an accepted making on: the list has an acknowledged open of the channel, and no accepted making and no accepted close of it afterwards.
  pub open_exactly : (h : History) (D : ℕ) → stopped_on h (making D) ≡ 0 → (calls : List Call)
      → (open_on (history_after h (making D ∷ calls)) s c ≡ true) ↔ StillOpen s c (with_answers (making D ∷ calls) (history_results h (making D ∷ calls)))
  open_exactly h D e calls =
      let r = open_after h (making D ∷ calls) in
      ((λ o. ⊎_elim (λ x. x) (λ x. absurd (ended x.1)) (r.0 o)), λ x. r.1 (inl x))
    where
      accepted : (history_step h (making D)).result.number ≡ 0
      accepted = unfold result_of in ap (λ (g : CallResult). g.number) ((history_step_lem h (making D)).result e)

      ended : Lasts s c (with_answers (making D ∷ calls) (history_results h (making D ∷ calls))) → ⊥
      ended l =
          unfold call_results with_answers counts_as Ends in
          (lasts_first (making D) (history_step h (making D)).result.number (with_answers calls (history_results (history_step h (making D)).state calls)) l).0 accepted tt
