-- Calls that take nothing from an open leave a table that leaves it at least as much.
-- Assumes nothing.
use mathlib.Core.Path.{◌≡◌, refl, sym, ◌∙◌}
use mathlib.Core.Logic.{◌⊎◌, inl, inr, ⊎_elim, ◌≢◌}
use mathlib.Core.Bool.{Bool, true, false, cond, not, ◌&&◌, ◌||◌}
use mathlib.Core.List.{List}
use Prim.Native.Nat.{ℕ}
use native.Mathlib.Omega.{arith}
use lib.Dec.{eqb, ltb}
use borrow.Author.Tests.{eqb-true, eq-eqb, ne_eqb, lt-ltb, not-false}
use Rattle.common.specs.Lists.{◌∈◌}
use Rattle.common.proofs.Tests.{is_false, both, and, or_left, clash, same?}
use Rattle.common.proofs.Lists.{any_some, some_any}
use Rattle.cube.specs.Axes.{axis, present}
use Rattle.cube.specs.Bits.{has}
use Rattle.cube.specs.Cube.{circuit_of, source_of, cube_nodes}
use Rattle.paths.specs.CubeNetwork.{LinkOf, ports}
use Rattle.paths.proofs.Words.{free_link}
use Rattle.paths.proofs.FoldedCube.{port_listed}
use Rattle.layout.specs.Layout.{wide_ports}
use Rattle.layout.specs.Resources.{Width}
use Rattle.table.specs.View.{View, view, shape_of, held_in, held_by, set_at, set_enabled, set_armed, without_circuit, available}
use Rattle.table.specs.Folding.{set_fold}
use Rattle.table.specs.Encode.{AllBytes}
use Rattle.soundness.specs.Sound.{Sound}
use Rattle.answers.specs.SendOnTable.{state_in, free_in}
use Rattle.circuit_path.specs.OpenCircuit.{is_open_in}
use Rattle.ownership.specs.Calls.{Call, OfKind, opening, closing, folding}
use Rattle.ownership.specs.Update.{updated}
use Rattle.ownership.specs.TableFacts.{open_in}
use Rattle.ownership.specs.OnTable.{facts_of, stopped_at, table_step}
use Rattle.ownership.specs.Agrees.{Accepted, table_after, after_calls}
use Rattle.ownership.specs.Allowed.{Allowed}
use Rattle.ownership.proofs.Allowed.{allowed}
use Rattle.ownership.proofs.Stops.{none_stops, none_stops_lent, pass_tests}
use Rattle.ownership.proofs.Steps.{table_step_lem}
use Rattle.ownership.proofs.Agreement.{represents_step}
use Rattle.ownership.proofs.FromTable.{sound_represents, keeps_sound, shows_update}
use Rattle.freedom.specs.Freedom.{AtLeastAsFree, MazeType, FoldsNoMore, UnfoldsNothing, TakesNothing, frees, repairs, arms, traces, books, judges, folds, EachTakesNothing, no_call, call_more}
use Rattle.freedom.proofs.Pairs.{present_wider, more_freedom}

-- a table of the same dimension in which each link of the cube that was enabled is, each link is held as it was or by nobody, and each channel that could be taken can be
record Wider (v w : View) : Type 0 where
  dimension : v.dimension ≡ w.dimension
  enabled : (n p : ℕ) → LinkOf (shape_of v) n p → v.enabled n p ≡ true → w.enabled n p ≡ true
  owner : (n p : ℕ) → (w.owner n p ≡ v.owner n p) ⊎ (w.owner n p ≡ 0)
  receives : (n k : ℕ) → available v n k ≡ true → available w n k ≡ true

wider_self : (v : View) → Wider v v
wider_self v = record { dimension = refl; enabled = λ n p l e. e; owner = λ n p. inl refl; receives = λ n k e. e }

module _ (v w : View) (sound : Sound v) (wider : Wider v w) (s c t : ℕ) where
  links_free : (n p : ℕ) → LinkOf (shape_of v) n p → free_in v n p ≡ true → free_in w n p ≡ true
  unfolding free_in state_in held_in
  links_free n p l e =
      let r = (free_link (v.enabled n p) _).0 e in
      let z : v.owner n p ≡ 0 = eqb-true (v.owner n p) 0 (not-false _ r.1) in
      let o : w.owner n p ≡ 0 = ⊎_elim (λ i. i ∙ z) (λ i. i) (wider.owner n p) in
      (free_link (w.enabled n p) _).1 (wider.enabled n p l r.0, rw (eq-eqb (w.owner n p) 0 o) refl)

  -- a link that a circuit holds in a sound table goes out of a port that is there
  held_there : (n p k : ℕ) → k ≢ 0 → v.owner n p ≡ k → p ∈ ports (shape_of v)
  held_there n p k some e = go (present v.dimension v.fold p) refl
    where
      go : (b : Bool) → present v.dimension v.fold p ≡ b → p ∈ ports (shape_of v)
      go true i = port_listed (shape_of v) p i
      go false i = absurd (some (sym e ∙ (sound.absent_link n p (λ l. clash l.1 i)).1))

  still_closed : open_in v s c ≡ false → open_in w s c ≡ false
  unfolding open_in is_open_in
  still_closed e =
      is_false _ (λ i.
      let k = circuit_of s c in
      let some : k ≢ 0 = λ z. omega arith in
      let r = any_some (held_by w k (source_of k)) (ports (shape_of w)) i in
      let o : w.owner (source_of k) r.0 ≡ k = eqb-true _ k r.2 in
      let held : v.owner (source_of k) r.0 ≡ k = ⊎_elim (λ j. sym j ∙ o) (λ j. absurd (some (sym o ∙ j))) (wider.owner (source_of k) r.0) in
      clash (some_any (held_by v k (source_of k)) (ports (shape_of v)) (held_there (source_of k) r.0 k some held) (eq-eqb _ k held)) e)

  wider_frees : open_in v s c ≡ false → AtLeastAsFree s c t v w
  wider_frees e = record { dimension = wider.dimension; links = links_free; receives = λ k l. wider.receives t k; send_channel = still_closed e }

-- an entry freed, or not
freed_or_same : (b : Bool) (x : ℕ) → (cond b 0 x ≡ x) ⊎ (cond b 0 x ≡ 0)
freed_or_same true x = inr refl
freed_or_same false x = inl refl

-- what is set at one place stays on elsewhere
set_on : (f : ℕ → ℕ → Bool) (n p m q : ℕ) → f m q ≡ true → set_at f n p true m q ≡ true
unfolding set_at
set_on f n p m q e = go (eqb m n && eqb q p)
  where
    go : (b : Bool) → cond b true (f m q) ≡ true
    go true = refl
    go false = e

closed_receives : (v : View) (a : ℕ) → a ≢ 0 → (n k : ℕ) → available v n k ≡ true → available (without_circuit v a) n k ≡ true
unfolding available without_circuit
closed_receives v a some n k e =
    let r = both (v.armed n k) _ e in
    let z : v.receiver n k ≡ 0 = eqb-true _ 0 r.1 in
    let other : eqb (v.receiver n k) a ≡ false = ne_eqb _ a (λ x. some (sym x ∙ z)) in
    rw (other, r.0) (eq-eqb (v.receiver n k) 0 z)

folded_enabled : (v : View) (mask : ℕ) → UnfoldsNothing v.fold mask → (n q : ℕ) → LinkOf (shape_of v) n q → v.enabled n q ≡ true → (set_fold v mask).enabled n q ≡ true
unfolding set_fold
folded_enabled v mask wider n q l e = go (eqb q (axis q))
  where
    here : (ltb n (cube_nodes v.dimension) && present v.dimension mask q) ≡ true
    here = and (lt-ltb n (cube_nodes v.dimension) l.0) (present_wider v.dimension v.fold mask wider q l.1)

    go : (b : Bool) → cond b (v.enabled n q) ((ltb n (cube_nodes v.dimension) && present v.dimension mask q) && (v.enabled n q || not (has v.fold (axis q)))) ≡ true
    go true = e
    go false = and here (or_left _ e)

updated_wider : (v : View) (type : ℕ) (a : Call) → TakesNothing type v.fold a → Wider v (updated v a)
unfolding updated set_enabled set_armed
updated_wider v type _ (frees {s} {c}) =
    unfold without_circuit in
    record {
      dimension = refl;
      enabled = λ n p l e. e;
      owner = λ n p. freed_or_same (eqb (v.owner n p) (circuit_of s c)) (v.owner n p);
      receives = closed_receives v (circuit_of s c) (λ z. omega arith);
    }
updated_wider v type _ (repairs {n} {p}) =
    record { dimension = refl; enabled = λ m q l e. set_on v.enabled n p m q e; owner = λ m q. inl refl; receives = λ m k e. unfold available in e }
updated_wider v type _ (arms {n} {k}) =
    record {
      dimension = refl;
      enabled = λ m q l e. e;
      owner = λ m q. inl refl;
      receives = λ m j e. unfold available in let r = both (v.armed m j) _ e in and (set_on v.armed n k m j r.0) r.1;
    }
updated_wider v type _ traces = wider_self v
updated_wider v type _ books = wider_self v
updated_wider v type _ judges = wider_self v
updated_wider v type _ (folds {mask} maze wider) =
    record { dimension = unfold set_fold in refl; enabled = folded_enabled v mask wider; owner = λ n p. inl (unfold set_fold in refl); receives = λ n k e. unfold set_fold available in e }

-- The mask is as it was, but for a folding, which is for types 0 and 4 alone.
masks_kept : (v : View) (type : ℕ) (a : Call) → TakesNothing type v.fold a → MazeType type ⊎ FoldsNoMore v (updated v a)
unfolding updated set_enabled set_armed without_circuit
masks_kept v type _ frees = inr (λ p e. e)
masks_kept v type _ repairs = inr (λ p e. e)
masks_kept v type _ arms = inr (λ p e. e)
masks_kept v type _ traces = inr (λ p e. e)
masks_kept v type _ books = inr (λ p e. e)
masks_kept v type _ judges = inr (λ p e. e)
masks_kept v type _ (folds maze wider) = inl maze

module _ (q : ℕ) (width : Width q) (s c t type vector : ℕ) where
  abbrev StillAccepted : List ℕ → Type 0
  StillAccepted b = Accepted q b (opening s c t type vector)

  -- one call: whatever it answers, what it leaves acknowledges the open again
  one_call : (b : List ℕ) → AllBytes b → StillAccepted b → (a : Call) → OfKind q a → TakesNothing type (view b).fold a → StillAccepted (table_step q b a).state
  unfolding Allowed facts_of
  one_call b small e a kind takes = ⊎_elim done (λ f. rw ((table_step_lem q b a).stopped f) e) (same? (stopped_at q b a) 0)
    where
      done : stopped_at q b a ≡ 0 → StillAccepted (table_step q b a).state
      done z =
          let sent = (table_step_lem q b (opening s c t type vector)).passed e in
          let passes = none_stops_lent q b (opening s c t type vector) refl sent in
          let sound = (pass_tests q b passes).3 in
          let closed = (allowed (facts_of (view b)) (opening s c t type vector) (none_stops q b (opening s c t type vector) sent)).5 in
          let shown = shows_update q width b small passes a kind z in
          more_freedom q q width width b (table_step q b a).state (keeps_sound q width b small passes a kind) s c t type vector
          (rw shown (wider_frees (view b) (updated (view b) a) sound (updated_wider (view b) type a takes) s c t closed)) (rw shown (masks_kept (view b) type a takes)) e

  -- and is bytes again
  small_after : (b : List ℕ) → AllBytes b → StillAccepted b → (a : Call) → OfKind q a → AllBytes (table_step q b a).state
  small_after b small e a kind =
      let sent = (table_step_lem q b (opening s c t type vector)).passed e in
      (represents_step q width b _ (sound_represents q b small (none_stops_lent q b (opening s c t type vector) refl sent)) a kind).represented.bytes.small

  calls_free : (b : List ℕ) → AllBytes b → StillAccepted b → {calls : List Call} → EachTakesNothing q type b calls → StillAccepted (table_after q b calls)
  unfolding after_calls
  calls_free b small e no_call = e
  calls_free b small e (call_more {a = a} kind takes more) = calls_free (table_step q b a).state (small_after b small e a kind) (one_call b small e a kind takes) more

pub lists_free : (q : ℕ) → Width q → (b : List ℕ) → AllBytes b → (s c t type vector : ℕ) → Accepted q b (opening s c t type vector) → (calls : List Call) → EachTakesNothing q type b calls
    → Accepted q (table_after q b calls) (opening s c t type vector)
lists_free q width b small s c t type vector e calls all = calls_free q width s c t type vector b small e all

pub folding_frees : (b : List ℕ) → AllBytes b → (s c t type vector mask : ℕ) → MazeType type → UnfoldsNothing (view b).fold mask → Accepted wide_ports b (opening s c t type vector)
    → Accepted wide_ports (table_step wide_ports b (folding mask)).state (opening s c t type vector)
folding_frees b small s c t type vector mask maze wider e = one_call wide_ports (inr refl) s c t type vector b small e (folding mask) refl (folds maze wider)

pub closing_frees : (q : ℕ) → Width q → (b : List ℕ) → AllBytes b → (s c t type vector : ℕ) → Accepted q b (opening s c t type vector) → (m k : ℕ)
    → Accepted q (table_step q b (closing m k)).state (opening s c t type vector)
closing_frees q width b small s c t type vector e m k = one_call q width s c t type vector b small e (closing m k) tt frees
