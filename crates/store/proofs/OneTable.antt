-- History 11 and History 15 for one table of either kind, from the theorem about several: all events are calls on it, and the other tables do not matter; also from
-- an accepted conversion or join on.
-- Assumes nothing.
use mathlib.Core.Path.{◌≡◌, refl, ap, ap₂, sym, subst, ◌∙◌}
use mathlib.Core.Logic.{◌≢◌}
use mathlib.Core.List.{List, [], ◌∷◌, ◌++◌, map, map-append}
use Prim.Native.Nat.{ℕ}
use native.Mathlib.Omega.{arith}
use Rattle.std.proofs.Common.{Some}
use Rattle.ownership.specs.Calls.{Call, making, blocking, unblocking, opening, closing, tracing, arming, disarming, opening_all, booking, judging, folding, OfKind, lent, After}
use Rattle.ownership.specs.Closing.{Each, no_call, call_more}
use Rattle.ownership.specs.OnTable.{table_step}
use Rattle.ownership.specs.History.{History, history_step, new_history}
use Rattle.ownership.specs.Agrees.{Agrees, Accepted, after_calls, call_results, table_after, table_results, history_after, history_results}
use Rattle.ownership.specs.HistoryView.{bytes_of}
use Rattle.ownership.specs.Invariant.{Valid, Represents}
use Rattle.ownership.specs.Kinds.{Kind, narrow, wide, kind_ports, kind_of, other_kind, KindCall, of_kind, kind_step, history_kind_step, kind_after, history_kind_after, AgreesOfKind}
use Rattle.ownership.proofs.Agreement.{made_result, made_represents}
use Rattle.ownership.proofs.KindCalls.{kind_width, history_same, kind_step_represents}
use Rattle.joining.specs.Joined.{joined_history, join_step}
use Rattle.converting.specs.Converted.{convert_step}
use Rattle.store.specs.Store.{Event, on, convert, join, converted_of, joined_of, Store, KnownTable, table_of, Known, nothing_known, store_step, lent_to, learn, store_after, known_after, store_results, Represented, GivesAsKnown, StoreAgrees}
use Rattle.store.proofs.Stores.{made_new, learn_made, learn_converted, learn_joined, learn_known, step_itself, written_itself, third_itself, step_represented, nothing_represented, store_demand_3}

-- calls that give the same at each place of a list give the same list
answers_same : {C S T : Type 0} (f : S → C → After S) (g : T → C → After T) (calls : List C) (s : S) (t : T)
    → ((before : List C) (a : C) (more : List C) → calls ≡ before ++ a ∷ more → (f (after_calls f s before) a).result ≡ (g (after_calls g t before) a).result)
    → call_results f s calls ≡ call_results g t calls
unfolding after_calls call_results
answers_same f g [] s t h = refl
answers_same f g (a ∷ calls) s t h = ap₂ ◌∷◌ (h [] a calls refl) (answers_same f g calls (f s a).state (g t a).state (λ before x more e. h (a ∷ before) x more (ap (a ∷◌) e)))

module _ (i : ℕ) where
  -- the calls of a list, as events on the table
  abbrev event : KindCall → Event
  event x = on x.kind i x.call

  abbrev events : List KindCall → List Event
  events calls = map event calls

  -- the bytes that they leave of it
  table_runs : (calls : List KindCall) (s : Store) → store_after s (events calls) i ≡ kind_after (s i) calls
  unfolding store_after after_calls
  table_runs [] s = refl
  table_runs (x ∷ more) s = table_runs more (store_step s (event x)).state ∙ ap (λ b. kind_after b more) (step_itself s x.kind i x.call)

  -- and what they give
  pub table_gives : (calls : List KindCall) (s : Store) → store_results s (events calls) ≡ call_results kind_step (s i) calls
  unfolding store_results call_results store_step
  table_gives [] s = refl
  table_gives (x ∷ more) s = ap ((kind_step (s i) x).result ∷◌) (table_gives more (store_step s (event x)).state ∙ ap (λ b. call_results kind_step b more) (step_itself s x.kind i x.call))

  -- what is known of it, from a history that it represents
  history_runs : (w : Kind) (calls : List KindCall) (s : Store) (k : Known) (h : History) → k i ≡ Some (table_of w h) → Represents (kind_ports w) (s i) h
      → known_after s k (events calls) i ≡ Some (table_of w (history_kind_after w h calls))
  unfolding known_after after_calls store_step
  history_runs w [] s k h q r = q
  history_runs w (x ∷ more) s k h q r =
      history_runs w more (store_step s (event x)).state (learn k (event x) (store_step s (event x)).result.number) (history_kind_step w h x).state (learn_known s k x.kind i x.call (table_of w h) q r)
      (rw (step_itself s x.kind i x.call) (kind_step_represents w (s i) h r x.kind x.call).represented)

  placed : (before : List KindCall) (x : KindCall) (more calls : List KindCall) → calls ≡ before ++ x ∷ more → events calls ≡ events before ++ event x ∷ events more
  placed before x more calls e = ap events e ∙ map-append event before (x ∷ more)

  module _ (w : Kind) (s : Store) (k : Known) (calls : List KindCall) (t : StoreAgrees s k (events calls)) (h : History) where
    -- where its history is known at first, each call gives what that history says
    results_from : k i ≡ Some (table_of w h) → Represents (kind_ports w) (s i) h → call_results kind_step (s i) calls ≡ call_results (history_kind_step w) h calls
    results_from q r = answers_same kind_step (history_kind_step w) calls (s i) h
        (λ before x more e. subst (λ b. (kind_step b x).result ≡ (history_kind_step w (history_kind_after w h before) x).result) (table_runs before s)
        (unfold GivesAsKnown store_step in t.results (events before) (event x) (events more) (placed before x more calls e) (table_of w (history_kind_after w h before)) (history_runs w before s k h q r)))

    refused_from : (before : List KindCall) (x : KindCall) (more : List KindCall) → calls ≡ before ++ x ∷ more → (kind_step (kind_after (s i) before) x).result.number ≢ 0
        → (kind_after (s i) (before ++ x ∷ []) ≡ kind_after (s i) before) × ((kind_step (kind_after (s i) before) x).result.buffers ≡ lent x.call)
    refused_from before x more e = subst
        (λ b. (kind_step b x).result.number ≢ 0 → (kind_after (s i) (before ++ x ∷ []) ≡ b) × ((kind_step b x).result.buffers ≡ lent x.call))
        (table_runs before s)
        (λ f. unfold store_step lent_to in
        let y = t.refused (events before) (event x) (events more) (placed before x more calls e) f in
        (sym (table_runs (before ++ x ∷ []) s) ∙ ap (λ xs. store_after s xs i) (map-append event before (x ∷ [])) ∙ y.0 i, y.1))

    -- What holds of the store holds of the table alone, if its history is known in the end and the calls gave what a history says.
    agrees_from : known_after s k (events calls) i ≡ Some (table_of w (history_kind_after w h calls)) → call_results kind_step (s i) calls ≡ call_results (history_kind_step w) h calls
        → AgreesOfKind w (s i) h calls
    agrees_from q e =
        record {
          bytes = sym (table_runs calls s) ∙ t.bytes i _ q;
          results = e;
          valid = (t.represented i _ q).valid;
          refused = refused_from;
        }

  -- A list of calls on a table whose history is known.
  pub one_table : (s : Store) (k : Known) → Represented s k → (w : Kind) (h : History) → k i ≡ Some (table_of w h) → (calls : List KindCall) → AgreesOfKind w (s i) h calls
  one_table s k r w h q calls =
      let t = store_demand_3 s k r (events calls) in agrees_from w s k calls t h (history_runs w calls s k h q (r i _ q)) (results_from w s k calls t h q (r i _ q))

  -- A list of calls on one table, the first an accepted making, whose kind is the table's: nothing is known before it, and the history that it is entered in does not matter.
  module _ (w : Kind) (s : Store) (h : History) (D : ℕ) (accepted : Accepted (kind_ports w) (s i) (making D)) (calls : List KindCall) where
    abbrev made : Store
    made = (store_step s (on w i (making D))).state

    abbrev known : Known
    known = learn nothing_known (on w i (making D)) (store_step s (on w i (making D))).result.number

    abbrev begun : History
    begun = (history_step h (making D)).state

    making_known : known i ≡ Some (table_of w begun)
    unfolding store_step
    making_known = learn_made s nothing_known w i (making D) D refl accepted ∙ ap (λ g. Some (table_of w g)) (sym (made_new w (s i) h D accepted))

    making_represents : Represents (kind_ports w) (made i) begun
    making_represents = rw (step_itself s w i (making D)) (made_represents (kind_ports w) (kind_width w) (s i) h D accepted)

    -- the making in the history of its kind
    making_step : history_kind_step w h (of_kind w (making D)) ≡ history_step h (making D)
    making_step = history_same w h (making D)

    later_known : known_after made known (events calls) i ≡ Some (table_of w (history_kind_after w (history_kind_step w h (of_kind w (making D))).state calls))
    later_known = history_runs w calls made known begun making_known making_represents ∙ ap (λ (x : After History). Some (table_of w (history_kind_after w x.state calls))) (sym making_step)

    pub table_demand_3 : AgreesOfKind w (s i) h (of_kind w (making D) ∷ calls)
    unfolding known_after after_calls call_results
    table_demand_3 =
        let t = store_demand_3 made known (step_represented s nothing_known (nothing_represented s) (on w i (making D))) (events calls) in
        let later = results_from w made known calls t begun making_known making_represents in
        agrees_from w s nothing_known (of_kind w (making D) ∷ calls) (store_demand_3 s nothing_known (nothing_represented s) (events (of_kind w (making D) ∷ calls))) h
        later_known
        (ap₂ ◌∷◌ (made_result (kind_ports w) (s i) h D accepted ∙ ap (λ (x : After History). x.result) (sym making_step))
        (subst (λ b. call_results kind_step b calls ≡ call_results (history_kind_step w) begun calls) (step_itself s w i (making D)) later
        ∙ ap (λ (x : After History). call_results (history_kind_step w) x.state calls) (sym making_step)))

  -- and what is known of the table after it and the calls is the history that begins with it, with the calls, whatever was known before
  pub made_known : (w : Kind) (s : Store) (k : Known) (D : ℕ) → Accepted (kind_ports w) (s i) (making D) → (calls : List KindCall)
      → known_after s k (events (of_kind w (making D) ∷ calls)) i ≡ Some (table_of w (history_kind_after w (new_history D) calls))
  unfolding known_after store_step
  made_known w s k D accepted calls =
      history_runs w calls (store_step s (on w i (making D))).state (learn k (on w i (making D)) (table_step (kind_ports w) (s i) (making D)).result.number) (new_history D)
      (learn_made s k w i (making D) D refl accepted)
      (rw (step_itself s w i (making D)) (subst (Represents (kind_ports w) (table_step (kind_ports w) (s i) (making D)).state) (made_new w (s i) (new_history D) D accepted) (made_represents (kind_ports w) (kind_width w) (s i) (new_history D) D accepted)))

-- Calls on tables of one kind alone: what it is to agree is the same. Setting a fold mask is no such call where the kind is narrow.
kept_kind : (w : Kind) (a : Call) → OfKind (kind_ports w) a → kind_of w a ≡ w
kept_kind narrow (folding mask) e = absurd (omega (arith, e))
kept_kind wide (folding mask) e = refl
kept_kind w (making D) e = refl
kept_kind w (blocking n p) e = refl
kept_kind w (unblocking n p) e = refl
kept_kind w (opening s c t y v) e = refl
kept_kind w (closing s c) e = refl
kept_kind w (tracing s c buffer) e = refl
kept_kind w (arming n k) e = refl
kept_kind w (disarming n k) e = refl
kept_kind w (opening_all sends) e = refl
kept_kind w (booking ports index) e = refl
kept_kind w (judging ports index circuits hops) e = refl

each_before : {P : Call → Type 0} (before more : List Call) → Each P (before ++ more) → Each P before × Each P more
each_before [] more kinds = (no_call, kinds)
each_before (a ∷ before) more (call_more kind kinds) = let x = each_before before more kinds in (call_more kind x.0, x.1)

first_of : {P : Call → Type 0} {a : Call} {more : List Call} → Each P (a ∷ more) → P a
first_of (call_more kind kinds) = kind

module _ (w : Kind) where
  abbrev alike : List Call → List KindCall
  alike calls = map (of_kind w) calls

  step_alike : (a : Call) → OfKind (kind_ports w) a → (b : List ℕ) → kind_step b (of_kind w a) ≡ table_step (kind_ports w) b a
  step_alike a kind b = ap (λ u. table_step (kind_ports u) b a) (kept_kind w a kind)

  said_step : (a : Call) → OfKind (kind_ports w) a → (h : History) → history_kind_step w h (of_kind w a) ≡ history_step h a
  said_step a kind h = subst (λ u. history_kind_step u h (of_kind w a) ≡ history_step h a) (kept_kind w a kind) (history_same w h a)

  table_alike : (calls : List Call) → Each (OfKind (kind_ports w)) calls → (b : List ℕ) → kind_after b (alike calls) ≡ table_after (kind_ports w) b calls
  unfolding after_calls
  table_alike [] kinds b = refl
  table_alike (a ∷ more) (call_more kind kinds) b = ap (λ (x : After (List ℕ)). kind_after x.state (alike more)) (step_alike a kind b) ∙ table_alike more kinds (table_step (kind_ports w) b a).state

  results_alike : (calls : List Call) → Each (OfKind (kind_ports w)) calls → (b : List ℕ) → call_results kind_step b (alike calls) ≡ table_results (kind_ports w) b calls
  unfolding call_results
  results_alike [] kinds b = refl
  results_alike (a ∷ more) (call_more kind kinds) b =
      ap (λ (x : After (List ℕ)). x.result ∷ call_results kind_step x.state (alike more)) (step_alike a kind b)
      ∙ ap ((table_step (kind_ports w) b a).result ∷◌) (results_alike more kinds (table_step (kind_ports w) b a).state)

  history_alike : (calls : List Call) → Each (OfKind (kind_ports w)) calls → (h : History) → history_kind_after w h (alike calls) ≡ history_after h calls
  unfolding after_calls
  history_alike [] kinds h = refl
  history_alike (a ∷ more) (call_more kind kinds) h =
      ap (λ (x : After History). history_kind_after w x.state (alike more)) (said_step a kind h) ∙ history_alike more kinds (history_step h a).state

  said_alike : (calls : List Call) → Each (OfKind (kind_ports w)) calls → (h : History) → call_results (history_kind_step w) h (alike calls) ≡ history_results h calls
  unfolding call_results
  said_alike [] kinds h = refl
  said_alike (a ∷ more) (call_more kind kinds) h =
      ap (λ (x : After History). x.result ∷ call_results (history_kind_step w) x.state (alike more)) (said_step a kind h)
      ∙ ap ((history_step h a).result ∷◌) (said_alike more kinds (history_step h a).state)

  pub agrees_alike : (b : List ℕ) (h : History) (calls : List Call) → Each (OfKind (kind_ports w)) calls → AgreesOfKind w b h (alike calls) → Agrees (kind_ports w) b h calls
  agrees_alike b h calls kinds t =
      record {
        bytes = sym (table_alike calls kinds b) ∙ t.bytes ∙ ap (bytes_of (kind_ports w)) (history_alike calls kinds h);
        results = sym (results_alike calls kinds b) ∙ t.results ∙ said_alike calls kinds h;
        valid = subst Valid (history_alike calls kinds h) t.valid;
        refused = λ before a more e.
            let (one, rest) = each_before before (a ∷ more) (subst (Each (OfKind (kind_ports w))) e kinds) in
            let kind = first_of rest in
            let both = sym (table_alike (before ++ a ∷ []) (each_both before one kind) b) ∙ ap (kind_after b) (map-append (of_kind w) before (a ∷ [])) in
            let y = t.refused (alike before) (of_kind w a) (alike more) (ap alike e ∙ map-append (of_kind w) before (a ∷ more)) in
            subst (λ c. (table_step (kind_ports w) c a).result.number ≢ 0 → (table_after (kind_ports w) b (before ++ a ∷ []) ≡ c) × ((table_step (kind_ports w) c a).result.buffers ≡ lent a)) (table_alike before one b)
            (subst
            (λ (x : After (List ℕ)). x.result.number ≢ 0 → (table_after (kind_ports w) b (before ++ a ∷ []) ≡ kind_after b (alike before)) × (x.result.buffers ≡ lent a)) (step_alike a kind (kind_after b (alike before)))
            (λ f. let z = y f in (both ∙ z.0, z.1)));
      }
    where
      each_both : {P : Call → Type 0} {a : Call} (before : List Call) → Each P before → P a → Each P (before ++ a ∷ [])
      each_both [] kinds kind = call_more kind no_call
      each_both (x ∷ before) (call_more one kinds) kind = call_more one (each_both before kinds kind)

  -- So History 11: a list of calls on one table, the first an accepted making.
  pub table_demand : (i : ℕ) (s : Store) (h : History) (D : ℕ) → Accepted (kind_ports w) (s i) (making D) → (calls : List Call) → Each (OfKind (kind_ports w)) calls
      → Agrees (kind_ports w) (s i) h (making D ∷ calls)
  table_demand i s h D accepted calls kinds = agrees_alike (s i) h (making D ∷ calls) (call_more tt kinds) (table_demand_3 i w s h D accepted (alike calls))

-- After an accepted conversion of a table whose history is known, that history is known of the table written.
module _ (s : Store) (k : Known) (r : Represented s k) (w : Kind) (i j : ℕ) (x : KnownTable) (p : k i ≡ Some x)
    (e : (convert_step (kind_ports w) (kind_ports (other_kind w)) (s i) (s j)).result.number ≡ 0) where
  abbrev converted : Store
  converted = (store_step s (convert w i j)).state

  abbrev known_then : Known
  known_then = learn k (convert w i j) (store_step s (convert w i j)).result.number

  same_history : known_then j ≡ Some (table_of (other_kind w) x.history)
  unfolding store_step converted_of
  same_history = learn_converted k w i j _ e ∙ ap (converted_of w) p

  -- History 18: then a list of calls on that table agrees with it,
  pub converted_table : (calls : List KindCall) → AgreesOfKind (other_kind w) (convert_step (kind_ports w) (kind_ports (other_kind w)) (s i) (s j)).state x.history calls
  converted_table calls =
      subst (λ b. AgreesOfKind (other_kind w) b x.history calls) (written_itself s w i j)
      (one_table j converted known_then (step_represented s k r (convert w i j)) (other_kind w) x.history same_history calls)

  -- and what is known of it after the conversion and the calls is that history with the calls.
  pub converted_known : (calls : List KindCall) → known_after s k (convert w i j ∷ map (λ (y : KindCall). on y.kind j y.call) calls) j ≡ Some (table_of (other_kind w) (history_kind_after (other_kind w) x.history calls))
  unfolding known_after
  converted_known calls = history_runs j (other_kind w) calls converted known_then x.history same_history (step_represented s k r (convert w i j) j _ same_history)

-- After an accepted join of two tables whose histories are known, the history of both is known of the third.
module _ (s : Store) (k : Known) (r : Represented s k) (i j t : ℕ) (x y : KnownTable) (p : k i ≡ Some x) (q : k j ≡ Some y) (e : (join_step (s i) (s j) (s t)).result.number ≡ 0) where
  abbrev joined : Store
  joined = (store_step s (join i j t)).state

  abbrev then_known : Known
  then_known = learn k (join i j t) (store_step s (join i j t)).result.number

  both_histories : then_known t ≡ Some (table_of narrow (joined_history x.history y.history))
  unfolding store_step joined_of
  both_histories = learn_joined k i j t _ e ∙ ap₂ joined_of p q

  pub joined_table : (calls : List KindCall) → AgreesOfKind narrow (join_step (s i) (s j) (s t)).state (joined_history x.history y.history) calls
  joined_table calls =
      subst (λ b. AgreesOfKind narrow b (joined_history x.history y.history) calls) (third_itself s i j t)
      (one_table t joined then_known (step_represented s k r (join i j t)) narrow (joined_history x.history y.history) both_histories calls)

  pub joined_known : (calls : List KindCall) → known_after s k (join i j t ∷ map (λ (z : KindCall). on z.kind t z.call) calls) t ≡ Some (table_of narrow (history_kind_after narrow (joined_history x.history y.history) calls))
  unfolding known_after
  joined_known calls = history_runs t narrow calls joined then_known (joined_history x.history y.history) both_histories (step_represented s k r (join i j t) t _ both_histories)
