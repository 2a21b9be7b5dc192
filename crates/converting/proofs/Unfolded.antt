-- A wide table that was written of a narrow one, folded and unfolded again: it has the bytes that it had. And every wide table goes back once it is unfolded.
-- Assumes nothing.
use mathlib.Core.Path.{◌≡◌, refl, ap, ap₂, sym, ◌∙◌, subst}
use mathlib.Core.Logic.{◌≢◌, inl, inr}
use mathlib.Core.Bool.{true, not}
use mathlib.Core.List.{List, [], ◌∷◌, ◌++◌}
use Prim.Native.Nat.{ℕ, ◌^◌, ◌≤◌, ◌<◌, ◌-◌}
use native.Mathlib.Omega.{arith}
use lib.Dec.{eqb}
use lib.ListN.{length}
use lib.Pow.{pow_pos}
use borrow.Author.Tests.{eq-eqb, ltb-true, lt-ltb}
use Rattle.common.specs.Lists.{◌∈◌, any, from, keep}
use Rattle.common.proofs.Tests.{clash, is_false, passed, accepted}
use Rattle.common.proofs.Lists.{keep_all}
use Rattle.cube.specs.Bits.{has}
use Rattle.cube.specs.Axes.{axis}
use Rattle.cube.specs.Cube.{largest_dimension}
use Rattle.cube.proofs.Bits.{zero_has}
use Rattle.cube.proofs.PartnerPorts.{unfolded_present}
use Rattle.paths.specs.Network.{Link}
use Rattle.layout.specs.Layout.{length_of}
use Rattle.table.specs.View.{View, view, held_in}
use Rattle.table.specs.Folding.{set_fold}
use Rattle.table.specs.Encode.{AllBytes}
use Rattle.soundness.specs.Sound.{Sound}
use Rattle.ownership.specs.Calls.{Call, making, blocking, unblocking, opening, closing, tracing, arming, disarming, opening_all, booking, judging, folding, OfKind, CallFacts, CallResult, only, call_tests, result_of}
use Rattle.ownership.specs.Closing.{Each, no_call, call_more}
use Rattle.ownership.specs.Update.{updated}
use Rattle.ownership.specs.OnTable.{facts_of, stopped_at, table_step, done}
use Rattle.ownership.specs.History.{History, keeps_bit, with_fold, applied}
use Rattle.ownership.specs.HistoryView.{view_of}
use Rattle.ownership.specs.Invariant.{Valid, Represents}
use Rattle.ownership.specs.FromTable.{history_of}
use Rattle.ownership.specs.Agrees.{Accepted, table_after, table_results, history_after, after_calls, call_results}
use Rattle.ownership.proofs.Allowed.{link_out, there_held}
use Rattle.ownership.proofs.Steps.{table_step_lem, history_step_lem}
use Rattle.ownership.proofs.Stops.{pass_tests, stopped_is}
use Rattle.ownership.proofs.FromTable.{sound_represents, shows_update}
use Rattle.ownership.proofs.Agreement.{represents_fold, represents_not_stopped, represents_bytes, represents_step, represents_run}
use Rattle.converting.specs.Converted.{widen_step, narrow_step}
use Rattle.converting.specs.ConvertSays.{FoldedBetween}
use Rattle.converting.proofs.ConvertNumbers.{passed_all, convert_accepted, convert_refused, refused_folded}
use Rattle.converting.proofs.Alike.{there, convert_represents}

-- every call is one on wide tables
wide_fits : (a : Call) → OfKind 18 a
wide_fits (folding mask) = refl
wide_fits (making D) = tt
wide_fits (blocking n p) = tt
wide_fits (unblocking n p) = tt
wide_fits (opening s c t y v) = tt
wide_fits (closing s c) = tt
wide_fits (tracing s c buffer) = tt
wide_fits (arming n k) = tt
wide_fits (disarming n k) = tt
wide_fits (opening_all sends) = tt
wide_fits (booking ports index) = tt
wide_fits (judging ports index circuits hops) = tt

pub all_wide : (calls : List Call) → Each (OfKind 18) calls
all_wide [] = no_call
all_wide (a ∷ calls) = call_more (wide_fits a) (all_wide calls)

-- a list of calls with one more
one_more : (calls : List Call) (b : List ℕ) (a : Call) → table_after 18 b (calls ++ a ∷ []) ≡ (table_step 18 (table_after 18 b calls) a).state
unfolding after_calls
one_more [] b a = refl
one_more (x ∷ calls) b a = one_more calls (table_step 18 b x).state a

-- The tests of setting a fold mask on a table that represents a history: it is accepted where it has no bit at or above D, and no partner link is held.
module _ (b : List ℕ) (h : History) (k : Represents 18 b h) (mask : ℕ) (below : mask < 2 ^ (view b).dimension)
    (free : (p n : ℕ) → p < (view b).dimension → has (view b).fold p ≡ true → held_in (view b) n (17 - p) ≡ true → ⊥) where
  abbrev facts : CallFacts
  facts = facts_of (view b)

  -- no test stops it
  stops : stopped_at 18 b (folding mask) ≡ 0
  stops =
      let x = pass_tests 18 b (represents_not_stopped 18 b h k) in
      stopped_is 18 b x.0 x.1 x.2 x.3 (folding mask) ∙ unfold call_tests facts_of in
      (passed 6 _ (ap not (lt-ltb mask (2 ^ (view b).dimension) below))
      ∙ passed 13 [] (is_false (any (link_out facts mask) (from 0 (view b).dimension)) (λ e. let (p, l, on, off, r) = there_held facts mask e in free p r.0 l on r.2)) ∙ accepted)

  pub set_accepted : (table_step 18 b (folding mask)).result ≡ only 0
  set_accepted = (table_step_lem 18 b (folding mask)).result stops ∙ unfold result_of in refl

  -- and then the table represents the history with that mask
  pub set_represents : Represents 18 (table_step 18 b (folding mask)).state (with_fold h mask)
  set_represents =
      let x = represents_step 18 (inr refl) b h k (folding mask) refl in
      subst (Represents 18 (table_step 18 b (folding mask)).state)
      ((history_step_lem h (folding mask)).accepted (ap (λ (g : CallResult). g.number) (sym x.result ∙ set_accepted)) ∙ unfold applied in refl) x.represented

-- A mask set on the history of an unfolded cube and cleared again leaves it: no link out of a partner port is blocked there.
fold_unfold : (h : History) → Valid h → h.fold ≡ 0 → (mask : ℕ) → with_fold (with_fold h mask) 0 ≡ h
unfolding with_fold
fold_unfold h valid z mask = λ i. record { dimension = h.dimension; fold = sym z i; blocked = kept i; circuits = h.circuits; armed = h.armed }
  where
    -- it is its own axis
    own : (l : Link) → l ∈ h.blocked → (f m : ℕ) → keeps_bit f m l.1 ≡ true
    own l m f g = unfold axis in
        let p = ltb-true l.1 h.dimension (sym (unfolded_present h.dimension l.1 (omega (arith, valid.most))) ∙ (rw z at (valid.blocked l m).1)) in
        rw (lt-ltb l.1 9 (omega (arith, p, valid.most)), eq-eqb l.1 l.1 refl) refl

    kept : keep (λ l. keeps_bit mask 0 l.1) (keep (λ l. keeps_bit h.fold mask l.1) h.blocked) ≡ h.blocked
    kept =
        ap (keep (λ l. keeps_bit mask 0 l.1)) (keep_all (λ l. keeps_bit h.fold mask l.1) h.blocked (λ l m. own l m h.fold mask))
        ∙ keep_all (λ l. keeps_bit mask 0 l.1) h.blocked (λ l m. own l m mask 0)

-- Of a narrow table a that is accepted, and the wide one d that is written of it.
module _ (a c : List ℕ) (z : (widen_step a c).result.number ≡ 0) (small : AllBytes a) where
  abbrev d : List ℕ
  d = (widen_step a c).state

  abbrev h : History
  h = history_of (view a)

  read : Represents 8 a h
  read = sound_represents 8 a small (passed_all 8 18 a c z).0

  written : Represents 18 d h
  written = convert_represents 8 18 (inl refl) (inr refl) a c z h read

  same_view : view d ≡ view a
  same_view = written.shows ∙ sym read.shows

  plain : (view d).fold ≡ 0
  plain = ap (λ (v : View). v.fold) written.shows ∙ unfold view_of in (represents_fold 8 a h read).plain refl

  wide : (length d ≡ length_of 18) × (1 ≤ (view d).dimension) × ((view d).dimension ≤ largest_dimension) × Sound (view d)
  wide = unfold view in pass_tests 18 d (represents_not_stopped 18 d h written)

  -- no link out of a partner port is held there
  unheld : (n q : ℕ) → 8 < q → (view d).owner n q ≡ 0
  unheld n q l = (wide.3.absent_link n q (λ k. omega (arith, l, wide.2, ltb-true q (view d).dimension (sym (unfolded_present (view d).dimension q (omega (arith, wide.2))) ∙ (rw plain at k.1))))).1

  module _ (mask : ℕ) (l : mask < 2 ^ (view a).dimension) where
    below : mask < 2 ^ (view d).dimension
    below = rw same_view l

    none_folded : (p n : ℕ) → p < (view d).dimension → has (view d).fold p ≡ true → held_in (view d) n (17 - p) ≡ true → ⊥
    none_folded p n k on t = clash on (ap (λ f. has f p) plain ∙ zero_has p)

    abbrev folded : List ℕ
    folded = (table_step 18 d (folding mask)).state

    masked : Represents 18 folded (with_fold h mask)
    masked = set_represents d h written mask below none_folded

    -- it shows what d shows, but for that mask
    fold_is : (view folded).fold ≡ mask
    fold_is = ap (λ (v : View). v.fold) masked.shows ∙ unfold view_of with_fold in refl

    dimension_is : (view folded).dimension ≡ (view d).dimension
    dimension_is = ap (λ (v : View). v.dimension) masked.shows ∙ unfold view_of with_fold in sym (ap (λ (v : View). v.dimension) written.shows)

    owner_is : (n p : ℕ) → (view folded).owner n p ≡ (view d).owner n p
    owner_is n p = ap (λ (v : View). v.owner n p) shown ∙ unfold set_fold in refl
      where
        shown : view folded ≡ set_fold (view d) mask
        shown = unfold updated in shows_update 18 (inr refl) d written.bytes.small (represents_not_stopped 18 d h written) (folding mask) refl (stops d h written mask below none_folded)

    none_held : (p n : ℕ) → p < (view folded).dimension → has (view folded).fold p ≡ true → held_in (view folded) n (17 - p) ≡ true → ⊥
    unfolding held_in
    none_held p n k on t = clash t (ap (λ o. not (eqb o 0)) (owner_is n (17 - p) ∙ unheld n (17 - p) (omega (arith, k, dimension_is, wide.2))))

    zero_below : 0 < 2 ^ (view folded).dimension
    zero_below = omega (arith, pow_pos (view folded).dimension)

    -- cleared again, it has the bytes that it had
    cleared : (table_step 18 folded (folding 0)).state ≡ d
    cleared =
        let x = subst (Represents 18 (table_step 18 folded (folding 0)).state) (fold_unfold h written.valid ((represents_fold 8 a h read).plain refl) mask) (set_represents folded (with_fold h mask) masked 0 zero_below none_held) in
        represents_bytes 18 (inr refl) (table_step 18 folded (folding 0)).state h x ∙ sym (represents_bytes 18 (inr refl) d h written)

    both_accepted : table_results 18 d (folding mask ∷ folding 0 ∷ []) ≡ only 0 ∷ only 0 ∷ []
    unfolding call_results
    both_accepted = ap₂ (λ x y. x ∷ y ∷ []) (set_accepted d h written mask below none_folded) (set_accepted folded (with_fold h mask) masked 0 zero_below none_held)

    stays_wide : mask ≢ 0 → (e : List ℕ) → length e ≡ 8705 → narrow_step folded e ≡ done e 24 [] []
    stays_wide f e k =
        let number = refused_folded 18 8 folded e (represents_not_stopped 18 folded (with_fold h mask) masked) k refl (λ y. f (sym fold_is ∙ y)) in
        convert_refused 18 8 folded e (λ y. omega (arith, number, y)) ∙ ap (λ m. done e m [] []) number

  goes_back : (calls : List Call) → Accepted 18 (table_after 18 d calls) (folding 0) → (e : List ℕ) → length e ≡ 8705 → (narrow_step (table_after 18 d (calls ++ folding 0 ∷ [])) e).result.number ≡ 0
  goes_back calls f e k =
      subst (λ b. (narrow_step b e).result.number ≡ 0) (sym (one_more calls d (folding 0)))
      (convert_accepted 18 8 last e (represents_not_stopped 18 last g unfolded) k (λ y. ap (λ (v : View). v.fold) unfolded.shows ∙ unfold view_of with_fold in refl))
    where
      before : Represents 18 (table_after 18 d calls) (history_after h calls)
      before = represents_run 18 (inr refl) calls (all_wide calls) d h written

      last : List ℕ
      last = (table_step 18 (table_after 18 d calls) (folding 0)).state

      g : History
      g = with_fold (history_after h calls) 0

      unfolded : Represents 18 last g
      unfolded =
          let x = represents_step 18 (inr refl) (table_after 18 d calls) (history_after h calls) before (folding 0) refl in
          subst (Represents 18 last) ((history_step_lem (history_after h calls) (folding 0)).accepted (ap (λ (r : CallResult). r.number) (sym x.result) ∙ f) ∙ unfold applied in refl) x.represented

  pub folded_between : FoldedBetween a d
  unfolding after_calls
  folded_between =
      record {
        accepted = both_accepted;
        refused = stays_wide;
        same = cleared;
        back = λ mask l e k. ap (λ b. narrow_step b e) (cleared mask l) ∙ there 18 8 (inr refl) (inl refl) d a h written read e k;
        goes_back = goes_back;
      }
