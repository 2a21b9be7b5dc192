-- History 21: one theorem about lists of events.
-- Assumes nothing.
use mathlib.Core.Path.{◌≡◌, refl, ap, ap₂, sym, subst, ◌∙◌}
use mathlib.Core.Logic.{◌⊎◌, inl, inr, ⊎_elim, ◌≢◌}
use mathlib.Core.Bool.{false}
use mathlib.Core.List.{List, [], ◌∷◌, ◌++◌}
use Prim.Native.Nat.{ℕ}
use native.Mathlib.Omega.{arith}
use borrow.Author.Tests.{eq-eqb, ne_eqb}
use Rattle.std.proofs.Common.{Option, Some, None}
use Rattle.std.specs.Option.{option_map}
use Rattle.std.proofs.lemmas.Option.{none-some, same_Some}
use Rattle.common.proofs.Tests.{same?}
use Rattle.ownership.specs.Calls.{Call, making, folding, CallResult, After}
use Rattle.ownership.specs.History.{History, applied, history_step, new_history}
use Rattle.ownership.specs.Invariant.{Represents}
use Rattle.ownership.specs.Agrees.{Accepted}
use Rattle.ownership.specs.Kinds.{Kind, narrow, wide, kind_ports, kind_of, same_kind, other_kind, of_kind, kind_step, history_kind_step}
use Rattle.ownership.proofs.Steps.{history_step_lem}
use Rattle.ownership.proofs.Refused.{refused_leaves}
use Rattle.ownership.proofs.Agreement.{represents_step, represents_bytes, made_result, made_represents}
use Rattle.ownership.proofs.BothKinds as both
use Rattle.ownership.proofs.KindCalls.{kind_width, kind_fits, one_kind, history_same, history_other, kind_step_represents}
use Rattle.joining.specs.Joined.{join_step}
use Rattle.joining.proofs.JoinNumbers.{join_numbers, join_represents}
use Rattle.converting.specs.Converted.{convert_step}
use Rattle.converting.proofs.ConvertNumbers.{passed_all, unchanged}
use Rattle.converting.proofs.Alike.{convert_represents}
use Rattle.store.proofs.TablesRead.{of_its_kind, join_as_known, convert_as_known, both_known, source_known}
use Rattle.store.specs.Store.{Event, on, convert, join, overwrite, Store, KnownTable, table_of, Known, nothing_known, with_table, store_step, lent_to, entered, converted_of, joined_of, learn, store_after, known_after, store_results, Represented, GivesAsKnown, StoreAgrees, FoldsWide, written_by, Unwritten}

-- the part of the table that is replaced, of another, and of any where nothing new is put in
module _ {A : Type 0} (f : ℕ → A) (i : ℕ) (x : A) where
  pub table_itself : with_table f i x i ≡ x
  unfolding with_table
  table_itself = rw (eq-eqb i i refl)

  pub other_table : (j : ℕ) → i ≢ j → with_table f i x j ≡ f j
  unfolding with_table
  other_table j d = rw (ne_eqb i j d)

  pub same_table : x ≡ f i → (j : ℕ) → with_table f i x j ≡ f j
  unfolding with_table
  same_table q j = ⊎_elim (λ e. rw (eq-eqb i j e) (q ∙ ap f e)) (λ d. rw (ne_eqb i j d)) (same? i j)

-- an accepted making begins the same history, whatever it was before
pub made_new : (w : Kind) (b : List ℕ) (h : History) (D : ℕ) → Accepted (kind_ports w) b (making D) → (history_step h (making D)).state ≡ new_history D
unfolding applied
made_new w b h D e = (history_step_lem h (making D)).accepted (sym (ap (λ (g : CallResult). g.number) (made_result (kind_ports w) b h D e)) ∙ e)

-- a call is a making, or it is entered in the history, if one is known
pub entered_as : (a : Call) → ((D : ℕ) × (a ≡ making D)) ⊎ ((w : Kind) (o : Option KnownTable) → entered w o a ≡ option_map (λ t. table_of t.kind (history_step t.history a).state) o)
unfolding entered
entered_as (making D) = inl (D, refl)
entered_as a = inr (λ w o. refl)

-- what is known of the table of a call where it is accepted, and where it is refused
module _ (k : Known) (w : Kind) (i : ℕ) (a : Call) (n : ℕ) where
  pub learn_accepted : n ≡ 0 → learn k (on w i a) n i ≡ entered w (k i) a
  unfolding learn
  learn_accepted e = table_itself k i _ ∙ rw (eq-eqb n 0 e)

  pub learn_refused : n ≢ 0 → learn k (on w i a) n i ≡ k i
  unfolding learn
  learn_refused f = table_itself k i _ ∙ rw (ne_eqb n 0 f)

module _ (s : Store) (k : Known) (w : Kind) (i : ℕ) (a : Call) where
  -- the kind of tables that the call is one on
  abbrev kind : Kind
  kind = kind_of w a

  abbrev number : ℕ
  number = (kind_step (s i) (of_kind w a)).result.number

  -- after an accepted making the history that begins with it is known
  pub learn_made : (D : ℕ) → a ≡ making D → number ≡ 0 → learn k (on w i a) number i ≡ Some (table_of w (new_history D))
  unfolding entered
  learn_made D m e = learn_accepted k w i a number e ∙ ap (entered w (k i)) m

  -- Where the history of the table is known, and represented, the one known afterwards is that history with the call entered in it: a call of the kind of the table,
  known_same : (h : History) → k i ≡ Some (table_of kind h) → Represents (kind_ports kind) (s i) h → learn k (on w i a) number i ≡ Some (table_of kind (history_step h a).state)
  known_same h q r = ⊎_elim accepts refuses (same? number 0)
    where
      makes : (D : ℕ) → a ≡ making D → number ≡ 0 → learn k (on w i a) number i ≡ Some (table_of kind (history_step h a).state)
      makes D m e =
          let same : kind ≡ w = ap (kind_of w) m in
          let accepted : Accepted (kind_ports w) (s i) (making D) = subst (λ c. Accepted (kind_ports (kind_of w c)) (s i) c) m e in
          learn_made D m e ∙ ap₂ (λ u g. Some (table_of u g)) (sym same) (sym (ap (λ c. (history_step h c).state) m ∙ made_new w (s i) h D accepted))

      accepts : number ≡ 0 → learn k (on w i a) number i ≡ Some (table_of kind (history_step h a).state)
      accepts e =
          ⊎_elim (λ m. makes m.0 m.1 e)
          (λ f. learn_accepted k w i a number e ∙ f w (k i) ∙ ap (option_map (λ t. table_of t.kind (history_step t.history a).state)) q) (entered_as a)

      refuses : number ≢ 0 → learn k (on w i a) number i ≡ Some (table_of kind (history_step h a).state)
      refuses f =
          let same = ap (λ (g : CallResult). g.number) (represents_step (kind_ports kind) (kind_width kind) (s i) h r a (kind_fits w a)).result in
          learn_refused k w i a number f ∙ q ∙ ap (λ g. Some (table_of kind g)) (sym ((history_step_lem h a).refused (λ z. f (same ∙ z))))

  -- and one of the other kind, which is refused.
  pub learn_known : (t : KnownTable) → k i ≡ Some t → Represents (kind_ports t.kind) (s i) t.history
      → learn k (on w i a) number i ≡ Some (table_of t.kind (history_kind_step t.kind t.history (of_kind w a)).state)
  learn_known t q r = go (one_kind kind t.kind)
    where
      go : (kind ≡ t.kind) ⊎ ((same_kind kind t.kind ≡ false) × (kind_ports kind ≢ kind_ports t.kind)) → learn k (on w i a) number i ≡ Some (table_of t.kind (history_kind_step t.kind t.history (of_kind w a)).state)
      go (inl e) =
          subst (λ (u : Kind). learn k (on w i a) number i ≡ Some (table_of u (history_kind_step u t.history (of_kind w a)).state)) e
          (known_same t.history (q ∙ ap (λ (u : Kind). Some (table_of u t.history)) (sym e)) (subst (λ (u : Kind). Represents (kind_ports u) (s i) t.history) (sym e) r)
          ∙ ap (λ (x : After History). Some (table_of kind x.state)) (sym (history_same w t.history a)))
      go (inr d) =
          let x = both.other_kind (kind_ports kind) (kind_ports t.kind) (kind_width kind) (kind_width t.kind) d.1 (s i) r.bytes.long a in
          let refused : number ≡ 1 = ap (λ (y : After (List ℕ)). y.result.number) x in
          learn_refused k w i a number (λ z. omega (arith, refused, z)) ∙ q ∙ ap (λ (y : After History). Some (table_of t.kind y.state)) (sym (history_other w t.kind t.history a d.0))

  -- Where it is not known, only an accepted making makes it known, and then the table represents it.
  learn_unknown : k i ≡ None → (t : KnownTable) → learn k (on w i a) number i ≡ Some t → Represents (kind_ports t.kind) (kind_step (s i) (of_kind w a)).state t.history
  learn_unknown q t l = ⊎_elim accepts (λ f. absurd (none-some t (sym (learn_refused k w i a number f ∙ q) ∙ l))) (same? number 0)
    where
      made : (D : ℕ) → a ≡ making D → number ≡ 0 → Represents (kind_ports t.kind) (kind_step (s i) (of_kind w a)).state t.history
      made D m e =
          let accepted = subst (λ c. Accepted (kind_ports (kind_of w c)) (s i) c) m e in
          let new : table_of w (new_history D) ≡ t = same_Some _ _ (sym (learn_made D m e) ∙ l) in
          let begins =
          subst (λ c. Represents (kind_ports w) (kind_step (s i) (of_kind w c)).state (history_step (new_history D) (making D)).state) (sym m)
          (made_represents (kind_ports w) (kind_width w) (s i) (new_history D) D accepted) in
          subst (λ (u : KnownTable). Represents (kind_ports u.kind) (kind_step (s i) (of_kind w a)).state u.history) new
          (subst (Represents (kind_ports w) (kind_step (s i) (of_kind w a)).state) (made_new w (s i) (new_history D) D accepted) begins)

      accepts : number ≡ 0 → Represents (kind_ports t.kind) (kind_step (s i) (of_kind w a)).state t.history
      accepts e =
          ⊎_elim (λ m. made m.0 m.1 e) (λ f. absurd (none-some t (sym (learn_accepted k w i a number e ∙ f w (k i) ∙ ap (option_map (λ u. table_of u.kind (history_step u.history a).state)) q) ∙ l)))
          (entered_as a)

  -- so whatever is known of the table afterwards is represented by its bytes
  learn_represents : (o : Option KnownTable) → k i ≡ o → ((t : KnownTable) → o ≡ Some t → Represents (kind_ports t.kind) (s i) t.history) → (t : KnownTable)
      → learn k (on w i a) number i ≡ Some t → Represents (kind_ports t.kind) (kind_step (s i) (of_kind w a)).state t.history
  learn_represents None q r t l = learn_unknown q t l
  learn_represents (Some u) q r t l =
      subst (λ (v : KnownTable). Represents (kind_ports v.kind) (kind_step (s i) (of_kind w a)).state v.history) (same_Some _ _ (sym (learn_known u q (r u refl)) ∙ l))
      (kind_step_represents u.kind (s i) u.history (r u refl) w a).represented

-- what is known of the table written by a conversion where it is accepted, and where it is refused
module _ (k : Known) (w : Kind) (i j n : ℕ) where
  pub learn_converted : n ≡ 0 → learn k (convert w i j) n j ≡ converted_of w (k i)
  unfolding learn
  learn_converted e = table_itself k j _ ∙ rw (eq-eqb n 0 e)

  learn_unconverted : n ≢ 0 → learn k (convert w i j) n j ≡ k j
  unfolding learn
  learn_unconverted f = table_itself k j _ ∙ rw (ne_eqb n 0 f)

-- Whatever is known of it afterwards is represented by the bytes that the conversion leaves.
module _ (s : Store) (k : Known) (r : Represented s k) (w : Kind) (i j : ℕ) where
  abbrev converts : After (List ℕ)
  converts = convert_step (kind_ports w) (kind_ports (other_kind w)) (s i) (s j)

  learn_convert_represents : (t : KnownTable) → learn k (convert w i j) converts.result.number j ≡ Some t → Represents (kind_ports t.kind) converts.state t.history
  learn_convert_represents t l = ⊎_elim accepts refuses (same? converts.result.number 0)
    where
      accepts : converts.result.number ≡ 0 → Represents (kind_ports t.kind) converts.state t.history
      accepts e =
          let (x, p, q) = source_known w (k i) t (sym (learn_converted k w i j _ e) ∙ l) in
          let passes = (passed_all (kind_ports w) (kind_ports (other_kind w)) (s i) (s j) e).0 in
          subst (λ (v : KnownTable). Represents (kind_ports v.kind) converts.state v.history) q
          (convert_represents (kind_ports w) (kind_ports (other_kind w)) (kind_width w) (kind_width (other_kind w)) (s i) (s j) e x.history (of_its_kind (s i) w x (r i x p) passes))

      refuses : converts.result.number ≢ 0 → Represents (kind_ports t.kind) converts.state t.history
      refuses f = rw (unchanged (kind_ports w) (kind_ports (other_kind w)) (s i) (s j) f) (r j t (sym (learn_unconverted k w i j _ f) ∙ l))

-- what is known of the third table of a join where it is accepted, and where it is refused
module _ (k : Known) (i j t n : ℕ) where
  pub learn_joined : n ≡ 0 → learn k (join i j t) n t ≡ joined_of (k i) (k j)
  unfolding learn
  learn_joined e = table_itself k t _ ∙ rw (eq-eqb n 0 e)

  learn_unjoined : n ≢ 0 → learn k (join i j t) n t ≡ k t
  unfolding learn
  learn_unjoined f = table_itself k t _ ∙ rw (ne_eqb n 0 f)

-- Whatever is known of it afterwards is represented by the bytes that the join leaves.
module _ (s : Store) (k : Known) (r : Represented s k) (i j t : ℕ) where
  abbrev joins : After (List ℕ)
  joins = join_step (s i) (s j) (s t)

  learn_join_represents : (u : KnownTable) → learn k (join i j t) joins.result.number t ≡ Some u → Represents (kind_ports u.kind) joins.state u.history
  learn_join_represents u l = ⊎_elim accepts refuses (same? joins.result.number 0)
    where
      accepts : joins.result.number ≡ 0 → Represents (kind_ports u.kind) joins.state u.history
      accepts e =
          let (x, y, p, q, v) = both_known (k i) (k j) u (sym (learn_joined k i j t _ e) ∙ l) in
          let passes = (join_numbers (s i) (s j) (s t)).accepted.0 e in
          subst (λ (v : KnownTable). Represents (kind_ports v.kind) joins.state v.history) v
          (join_represents (s i) (s j) (s t) x.history y.history (of_its_kind (s i) narrow x (r i x p) passes.0) (of_its_kind (s j) narrow y (r j y q) passes.1) e)

      refuses : joins.result.number ≢ 0 → Represents (kind_ports u.kind) joins.state u.history
      refuses f = rw ((join_numbers (s i) (s j) (s t)).unchanged f) (r t u (sym (learn_unjoined k i j t _ f) ∙ l))

-- nothing is known of a table that somebody else wrote
pub learn_overwritten : (k : Known) (i : ℕ) (b : List ℕ) (n : ℕ) → n ≡ 0 → learn k (overwrite i b) n i ≡ None
unfolding learn
learn_overwritten k i b n e = table_itself k i _ ∙ rw (eq-eqb n 0 e)

-- the bytes of the table that an event writes; those of another table and what is known of it
pub step_itself : (s : Store) (w : Kind) (i : ℕ) (a : Call) → (store_step s (on w i a)).state i ≡ (kind_step (s i) (of_kind w a)).state
unfolding store_step
step_itself s w i a = table_itself s i _

pub written_itself : (s : Store) (w : Kind) (i j : ℕ) → (store_step s (convert w i j)).state j ≡ (convert_step (kind_ports w) (kind_ports (other_kind w)) (s i) (s j)).state
unfolding store_step
written_itself s w i j = table_itself s j _

pub third_itself : (s : Store) (i j t : ℕ) → (store_step s (join i j t)).state t ≡ (join_step (s i) (s j) (s t)).state
unfolding store_step
third_itself s i j t = table_itself s t _

pub step_other : (s : Store) (e : Event) (j : ℕ) → written_by e ≢ j → (store_step s e).state j ≡ s j
unfolding store_step written_by
step_other s (on w i a) j d = other_table s i _ j d
step_other s (convert w i t) j d = other_table s t _ j d
step_other s (join i j t) m d = other_table s t _ m d
step_other s (overwrite i b) j d = other_table s i _ j d

pub learn_other : (k : Known) (e : Event) (n j : ℕ) → written_by e ≢ j → learn k e n j ≡ k j
unfolding learn written_by
learn_other k (on w i a) n j d = other_table k i _ j d
learn_other k (convert w i t) n j d = other_table k t _ j d
learn_other k (join i j t) n m d = other_table k t _ m d
learn_other k (overwrite i b) n j d = other_table k i _ j d

-- One event: whatever is known afterwards of the table that it may write is represented,
written_represented : (s : Store) (k : Known) → Represented s k → (e : Event) (t : KnownTable) → learn k e (store_step s e).result.number (written_by e) ≡ Some t
    → Represents (kind_ports t.kind) ((store_step s e).state (written_by e)) t.history
unfolding store_step written_by
written_represented s k r (on w i a) t l = rw (step_itself s w i a) (learn_represents s k w i a (k i) refl (r i) t l)
written_represented s k r (convert w i j) t l = rw (written_itself s w i j) (learn_convert_represents s k r w i j t l)
written_represented s k r (join i j m) t l = rw (third_itself s i j m) (learn_join_represents s k r i j m t l)
written_represented s k r (overwrite i b) t l = absurd (none-some t (sym (learn_overwritten k i b 0 refl) ∙ l))

-- and so is whatever is known of any table.
pub step_represented : (s : Store) (k : Known) → Represented s k → (e : Event) → Represented (store_step s e).state (learn k e (store_step s e).result.number)
step_represented s k r e j t l = ⊎_elim itself other (same? (written_by e) j)
  where
    itself : written_by e ≡ j → Represents (kind_ports t.kind) ((store_step s e).state j) t.history
    itself q =
        subst (λ m. learn k e (store_step s e).result.number m ≡ Some t → Represents (kind_ports t.kind) ((store_step s e).state m) t.history) q
        (written_represented s k r e t) l

    other : written_by e ≢ j → Represents (kind_ports t.kind) ((store_step s e).state j) t.history
    other d = rw (step_other s e j d) (r j t (sym (learn_other k e _ j d) ∙ l))

-- It gives what the history of its table says, where one is known, or a join or a conversion what the known histories of the tables read say,
step_as_known : (s : Store) (k : Known) → Represented s k → (e : Event) → GivesAsKnown s k e
unfolding store_step GivesAsKnown
step_as_known s k r (on w i a) = λ t q. (kind_step_represents t.kind (s i) t.history (r i t q) w a).result
step_as_known s k r (convert w i j) = convert_as_known w (s i) (s j) (k i) (r i)
step_as_known s k r (join i j t) = join_as_known (s i) (s j) (s t) (k i) (k j) (r i) (r j)
step_as_known s k r (overwrite i b) = tt

-- and where it is refused, each byte of every table and of the buffers that it is lent is as it was
step_refused : (s : Store) (e : Event) → (store_step s e).result.number ≢ 0 → ((j : ℕ) → (store_step s e).state j ≡ s j) × ((store_step s e).result.buffers ≡ lent_to e)
unfolding store_step lent_to
step_refused s (on w i a) f = let x = refused_leaves (kind_ports (kind_of w a)) (s i) a f in (same_table s i _ x.0, x.1)
step_refused s (convert w i j) f = (same_table s j _ (unchanged (kind_ports w) (kind_ports (other_kind w)) (s i) (s j) f), unfold convert_step in refl)
step_refused s (join i j t) f = (same_table s t _ ((join_numbers (s i) (s j) (s t)).unchanged f), unfold join_step in refl)
step_refused s (overwrite i b) f = absurd (f refl)

-- Setting a fold mask is a call on a wide table.
pub folds_wide : (s : Store) (k : Known) → Represented s k → FoldsWide s k
unfolding store_step history_kind_step
folds_wide s k r =
    record {
      named = λ w i mask. refl;
      on_narrow = λ w i mask h q. (kind_step_represents narrow (s i) h (r i _ q) w (folding mask)).result;
      on_wide = λ w i mask h q. (kind_step_represents wide (s i) h (r i _ q) w (folding mask)).result;
      entered = λ w i mask h q. learn_known s k w i (folding mask) (table_of wide h) q (r i _ q);
    }

-- Lists of events: whatever is known afterwards is represented.
pub run_represented : (events : List Event) (s : Store) (k : Known) → Represented s k → Represented (store_after s events) (known_after s k events)
unfolding store_after known_after
run_represented [] s k r = r
run_represented (e ∷ more) s k r = run_represented more (store_step s e).state (learn k e (store_step s e).result.number) (step_represented s k r e)

-- one event more at the end
store_after_all : (before : List Event) (s : Store) (e : Event) → store_after s (before ++ e ∷ []) ≡ (store_step (store_after s before) e).state
unfolding store_after
store_after_all [] s e = refl
store_after_all (x ∷ before) s e = store_after_all before (store_step s x).state e

-- What an event of a list gives stands at its place among the results.
pub result_placed : (before : List Event) (s : Store) (e : Event) (more : List Event)
    → store_results s (before ++ e ∷ more) ≡ store_results s before ++ (store_step (store_after s before) e).result ∷ store_results (store_step (store_after s before) e).state more
unfolding store_after store_results
result_placed [] s e more = refl
result_placed (x ∷ before) s e more = ap ((store_step s x).result ∷◌) (result_placed before (store_step s x).state e more)

-- Where nothing is known, nothing has to be represented.
pub nothing_represented : (s : Store) → Represented s nothing_known
nothing_represented s i t q = absurd (none-some t q)

-- History 21. From any store, and whatever is known of it and represented, as where nothing is known.
pub store_demand_3 : (s : Store) (k : Known) → Represented s k → (events : List Event) → StoreAgrees s k events
store_demand_3 s k r events =
    let after = run_represented events s k r in
    record {
      represented = after;
      bytes = λ i t q. represents_bytes (kind_ports t.kind) (kind_width t.kind) _ t.history (after i t q);
      results = λ before e more q. step_as_known _ _ (run_represented before s k r) e;
      refused = λ before e more q f. let x = step_refused (store_after s before) e f in (λ i. ap (λ (t : Store). t i) (store_after_all before s e) ∙ x.0 i, x.1);
    }

-- A list of events of which none may write a table leaves its bytes and what is known of it.
pub unwritten_stays : (i : ℕ) (events : List Event) → Unwritten i events → (s : Store) (k : Known) → (store_after s events i ≡ s i) × (known_after s k events i ≡ k i)
unfolding store_after known_after Unwritten
unwritten_stays i [] w s k = (refl, refl)
unwritten_stays i (e ∷ more) w s k =
    let n = (store_step s e).result.number in
    let rest = unwritten_stays i more w.1 (store_step s e).state (learn k e n) in (rest.0 ∙ step_other s e i w.0, rest.1 ∙ learn_other k e n i w.0)
