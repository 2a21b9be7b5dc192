-- The test passes at every entry exactly where the table is sound.
-- Assumes nothing.
use mathlib.Core.Path.{◌≡◌, refl, sym, ◌∙◌, ap}
use mathlib.Core.Logic.{◌⊎◌, inl, inr, ⊎_elim, ◌≢◌}
use mathlib.Core.Bool.{Bool, true, false, cond, ◌&&◌, not, and-false, false≢true}
use Prim.Native.Nat.{ℕ, ◌*◌, ◌^◌, ◌≤◌, ◌<◌}
use native.Mathlib.Omega.{arith}
use lib.Dec.{eqb, ltb, leb}
use borrow.Author.Tests.{eqb-true, eq-eqb, ne_eqb, not-true, ltb-true, lt-ltb, leb-true, le-leb}
use Rattle.common.specs.Lists.{◌∈◌}
use Rattle.common.proofs.Tests.{same?, below_or, clash, is_false, both_below, both, and, or_left, or_right}
use Rattle.common.proofs.Every.{decide₂}
use Rattle.cube.specs.Cube.{largest_dimension, channels, cube_nodes, NodeOf, source_of}
use Rattle.cube.specs.Axes.{present}
use Rattle.cube.specs.Bits.{has}
use Rattle.cube.proofs.Axes.{present_axis}
use Rattle.cube.proofs.Bits.{zero_has, high_has, no_bit_above}
use Rattle.cube.proofs.Ports.{most_nodes}
use Rattle.paths.specs.Network.{links}
use Rattle.paths.proofs.Links.{On, link_true, true_link}
use Rattle.paths.proofs.Apart.{apart_permitted}
use Rattle.paths.proofs.Walks.{path_owned, path_apart}
use Rattle.layout.specs.Layout.{in_table}
use Rattle.table.specs.View.{View, fresh, shape_of, net, held_by}
use Rattle.paths.specs.CubeNetwork.{Shape, unfolded, LinkOf, is_link_of, ports}
use Rattle.circuit_path.specs.CircuitSound.{end_for, CircuitSound}
use Rattle.circuit_path.specs.PathOf.{path_of, is_empty}
use Rattle.circuit_path.proofs.CircuitSound.{not_empty, some_hop, path_is}
use Rattle.circuit_hops.proofs.OneKept.{one_kept, kept_one}
use Rattle.soundness.specs.Sound.{Nowhere, Sound}
use Rattle.soundness.specs.SoundTest.{mask_bits, circuit_test, link_test, receive_test, on_path_of, channels_held}

-- a table shows nothing at a place that it has no room for
pub record Framed (v : View) : Type 0 where
  pub no_link : (n p : ℕ) → in_table mask_bits n p ≡ false → (v.enabled n p ≡ false) × (v.owner n p ≡ 0)
  pub no_receive : (n k : ℕ) → in_table channels n k ≡ false → v.receiver n k ≡ 0
  pub no_armed : (n k : ℕ) → in_table channels n k ≡ false → v.armed n k ≡ false

-- the test passes at every entry
pub record EntriesPass (v : View) : Type 0 where
  pub fold_passes : ltb v.fold (2 ^ v.dimension) ≡ true
  pub links_pass : (n p : ℕ) → n < 256 → p < mask_bits → link_test v n p ≡ true
  pub receives_pass : (n k : ℕ) → n < 256 → k < channels → receive_test v n k ≡ true

-- the test of a link of the cube
pub is_link : (S : Shape) (n p : ℕ) → is_link_of S n p ≡ true → LinkOf S n p
is_link S n p e = let r = both (ltb n (2 ^ S.dimension)) (present S.dimension S.fold p) e in (ltb-true n _ r.0, r.1)

pub no_link : (S : Shape) (n p : ℕ) → is_link_of S n p ≡ false → LinkOf S n p → ⊥
no_link S n p e i = clash (and (lt-ltb n _ i.0) i.1) e

-- a fold mask has no bit at or above the dimension where it is below 2^D
below_fold : (v : View) → ((p : ℕ) → has v.fold p ≡ true → p < v.dimension) → ltb v.fold (2 ^ v.dimension) ≡ true
below_fold v bits = lt-ltb _ _ (no_bit_above v.dimension v.fold (λ p l. is_false _ (λ t. omega (arith, bits p t))))

fold_below : (v : View) → ltb v.fold (2 ^ v.dimension) ≡ true → (p : ℕ) → has v.fold p ≡ true → p < v.dimension
fold_below v e p t = ⊎_elim (λ l. l) (λ l. absurd (clash t (high_has v.dimension v.fold p (ltb-true _ _ e) l))) (below_or v.dimension p)

-- a place is in the table or not
pub placed : {w : ℕ} (n p : ℕ) → ((n < 256) × (p < w)) ⊎ (in_table w n p ≡ false)
placed {w} n p = go (in_table w n p) refl
  where
    go : (b : Bool) → in_table w n p ≡ b → ((n < 256) × (p < w)) ⊎ (in_table w n p ≡ false)
    go true e = inl (both_below e)
    go false e = inr e

-- what a test that fails elsewhere says where it passes
passing : (b : Bool) {x : Bool} → cond b x false ≡ true → x ≡ true
passing true e = e
passing false e = absurd (false≢true e)

module _ (v : View) where
  circuit_passes : (c : ℕ) → c ≤ channels * cube_nodes v.dimension → CircuitSound v c → circuit_test v c ≡ true
  unfolding circuit_test channels_held
  circuit_passes c h s =
      and (le-leb c _ h)
      (rw (path_is v c s)
      (and (some_hop (net v) (source_of c) (ports (shape_of v)) (end_for v c s.path) s.path s.permitted)
      (eq-eqb _ 1 (one_kept channels (λ k. eqb (v.receiver (end_for v c s.path) k) c) s.receive s.small (eq-eqb _ c s.receives) (λ j l e. (s.once (end_for v c s.path) j (eqb-true _ c e)).1)))))

  -- a number that occurs stands
  pub link_stands : Sound v → (n p : ℕ) → v.owner n p ≢ 0 → CircuitSound v (v.owner n p)
  link_stands sound n p h = ⊎_elim (λ z. absurd (z.0 n p refl)) (λ s. s) (sound.numbers (v.owner n p) h)

  pub receive_stands : Sound v → (n k : ℕ) → v.receiver n k ≢ 0 → CircuitSound v (v.receiver n k)
  receive_stands sound n k h = ⊎_elim (λ z. absurd (z.1 n k refl)) (λ s. s) (sound.numbers (v.receiver n k) h)

  -- what is left of a test outside the cube, where it passes for an entry that is zero and for no other
  module _ (n p : ℕ) (out : LinkOf (shape_of v) n p → ⊥) where
    test_outside : link_test v n p ≡ (not (v.enabled n p) && eqb (v.owner n p) 0)
    unfolding link_test
    test_outside = rw (is_false (is_link_of (shape_of v) n p) (λ e. out (is_link (shape_of v) n p e)))

    absent_passes : (v.enabled n p ≡ false) × (v.owner n p ≡ 0) → link_test v n p ≡ true
    absent_passes a = test_outside ∙ and (ap not a.0) (eq-eqb _ 0 a.1)

    link_absent : link_test v n p ≡ true → (v.enabled n p ≡ false) × (v.owner n p ≡ 0)
    link_absent t = let r = both (not (v.enabled n p)) _ (sym test_outside ∙ t) in (not-true _ r.0, eqb-true _ 0 r.1)

  module _ (n k : ℕ) (out : NodeOf v.dimension n → ⊥) where
    receive_outside : receive_test v n k ≡ (not (v.armed n k) && eqb (v.receiver n k) 0)
    unfolding receive_test
    receive_outside = rw (is_false (ltb n (2 ^ v.dimension)) (λ e. out (ltb-true n _ e)))

    receive_absent : receive_test v n k ≡ true → (v.armed n k ≡ false) × (v.receiver n k ≡ 0)
    receive_absent t = let r = both (not (v.armed n k)) _ (sym receive_outside ∙ t) in (not-true _ r.0, eqb-true _ 0 r.1)

  -- A sound table passes at every entry.
  sound_link : Sound v → (n p : ℕ) → link_test v n p ≡ true
  unfolding link_test
  sound_link sound n p = go (is_link_of (shape_of v) n p) refl (same? (v.owner n p) 0)
    where
      go : (b : Bool) → is_link_of (shape_of v) n p ≡ b → (v.owner n p ≡ 0) ⊎ (v.owner n p ≢ 0) → link_test v n p ≡ true
      go true e (inl z) = rw e (or_left _ (eq-eqb _ 0 z))
      go true e (inr h) =
          let s = link_stands sound n p h in
          rw e
          (or_right (eqb (v.owner n p) 0) (and (sound.held_enabled n p h) (and (circuit_passes _ (sound.link_number n p) s)
          (unfold on_path_of in rw (path_is v _ s) (link_true _ n p (s.exactly.only n p (eq-eqb (v.owner n p) _ refl)))))))
      go false e z = let h : LinkOf (shape_of v) n p → ⊥ = no_link (shape_of v) n p e in absent_passes n p h (sound.absent_link n p h)

  -- a receive channel that nobody holds passes; outside the cube where it is not armed
  free_receive : (n k : ℕ) → v.receiver n k ≡ 0 → ((NodeOf v.dimension n → ⊥) → v.armed n k ≡ false) → receive_test v n k ≡ true
  unfolding receive_test
  free_receive n k z off = go (ltb n (2 ^ v.dimension)) refl
    where
      go : (b : Bool) → ltb n (2 ^ v.dimension) ≡ b → receive_test v n k ≡ true
      go true e = rw e (or_left _ (eq-eqb _ 0 z))
      go false e = rw e (and (ap not (off (λ l. clash (lt-ltb n _ l) e))) (eq-eqb _ 0 z))

  sound_receive : Sound v → (n k : ℕ) → receive_test v n k ≡ true
  unfolding receive_test
  sound_receive sound n k =
      ⊎_elim (λ z. free_receive n k z (sound.absent_armed n k)) (λ h. held h (ltb n (2 ^ v.dimension)) refl) (same? (v.receiver n k) 0)
    where
      held : v.receiver n k ≢ 0 → (b : Bool) → ltb n (2 ^ v.dimension) ≡ b → receive_test v n k ≡ true
      held h false e = absurd (h (sound.absent_receive n k (λ l. clash (lt-ltb n _ l) e)))
      held h true e =
          let s = receive_stands sound n k h in
          rw e
          (or_right (eqb (v.receiver n k) 0) (and (sound.held_armed n k h) (and (circuit_passes _ (sound.receive_number n k) s)
          (rw (path_is v _ s) (eq-eqb n _ (s.once n k refl).0)))))

  pub sound_entries : Sound v → EntriesPass v
  sound_entries sound = record { fold_passes = below_fold v sound.fold_bits; links_pass = λ n p h l. sound_link sound n p; receives_pass = λ n k h l. sound_receive sound n k }

  -- what the test of a circuit says: it is in range, its path is not empty, and it holds one receive channel there
  pub record CircuitFacts (c : ℕ) : Type 0 where
    pub in_range : c ≤ channels * cube_nodes v.dimension
    pub some : not (is_empty (path_of v c)) ≡ true
    pub receive : ℕ
    pub small : receive < channels
    pub receives : v.receiver (end_for v c (path_of v c)) receive ≡ c
    pub once : (k : ℕ) → k < channels → v.receiver (end_for v c (path_of v c)) k ≡ c → k ≡ receive

  pub circuit_facts : (c : ℕ) → circuit_test v c ≡ true → CircuitFacts c
  unfolding circuit_test channels_held
  circuit_facts c e =
      let a = both (leb c (channels * cube_nodes v.dimension)) _ e in
      let b = both (not (is_empty (path_of v c))) _ a.1 in
      let j = kept_one channels (λ k. eqb (v.receiver (end_for v c (path_of v c)) k) c) (eqb-true _ 1 b.1) in
      record { in_range = leb-true c _ a.0; some = b.0; receive = j.0; small = j.1; receives = eqb-true _ c j.2; once = λ k l x. j.3 k l (eq-eqb _ c x) }

  -- what the test of a link says of the circuit that holds it
  record LinkFacts (n p c : ℕ) : Type 0 where
    on : v.enabled n p ≡ true
    circuit_passed : circuit_test v c ≡ true
    on_paths : (n, p) ∈ links (net v) (source_of c) (path_of v c)

  module _ (links_pass : (n p : ℕ) → link_test v n p ≡ true) (receives_pass : (n k : ℕ) → receive_test v n k ≡ true) (framed : Framed v) (c : ℕ) (some : c ≢ 0) where
    held_link : (n p : ℕ) → v.owner n p ≡ c → LinkFacts n p c
    unfolding link_test on_path_of
    held_link n p x =
        let a = both (v.enabled n p) _ (passing (is_link_of (shape_of v) n p) (rw (x, ne_eqb c 0 some, and-false (not (v.enabled n p))) at (links_pass n p))) in
        let b = both (circuit_test v c) _ a.1 in
        record { on = a.0; circuit_passed = b.0; on_paths = true_link _ n p b.1 }

    -- and that of a receive channel: it is armed, and its path ends there
    held_receive : (n k : ℕ) → v.receiver n k ≡ c → (v.armed n k ≡ true) × (circuit_test v c ≡ true) × (n ≡ end_for v c (path_of v c))
    unfolding receive_test
    held_receive n k x =
        let t = rw (x, ne_eqb c 0 some, and-false (not (v.armed n k))) at (receives_pass n k) in
        let a = both (v.armed n k) _ (passing (ltb n (2 ^ v.dimension)) t) in
        let b = both (circuit_test v c) _ a.1 in
        (a.0, b.0, eqb-true n _ b.1)

    -- a number that reaches its end stands
    circuit_sound : circuit_test v c ≡ true → CircuitSound v c
    circuit_sound e =
        let r = circuit_facts c e in
        record {
          path = path_of v c;
          permitted = apart_permitted (shape_of v) (source_of c) (path_of v c) (unfold path_of in path_apart (shape_of v) (held_by v c) (source_of c) (not_empty (path_of v c) r.some));
          exactly =
              record {
                all = λ m q o. unfold path_of On in path_owned (shape_of v) (held_by v c) (source_of c) m q o;
                only = λ m q o. (held_link m q (eqb-true _ c o)).on_paths;
              };
          receive = r.receive;
          small = r.small;
          receives = r.receives;
          once = λ n k x.
              let ends = (held_receive n k x).2 in
              let inside = ⊎_elim (λ i. i.1) (λ o. absurd (some (sym x ∙ framed.no_receive n k o))) (placed n k) in
              (ends, r.once k inside (rw (← ends) x));
        }

    number_stands : Nowhere v c ⊎ CircuitSound v c
    number_stands = go (decide₂ 256 24 (λ n p. eqb (v.owner n p) c)) (decide₂ 256 8 (λ n k. eqb (v.receiver n k) c))
      where
        go : ((i : ℕ) × (j : ℕ) × (eqb (v.owner i j) c ≡ true)) ⊎ ((i j : ℕ) → i < 256 → j < mask_bits → eqb (v.owner i j) c ≡ false)
            → ((i : ℕ) × (j : ℕ) × (eqb (v.receiver i j) c ≡ true)) ⊎ ((i j : ℕ) → i < 256 → j < channels → eqb (v.receiver i j) c ≡ false) → Nowhere v c ⊎ CircuitSound v c
        go (inl s) r = inr (circuit_sound (held_link s.0 s.1 (eqb-true _ c s.2)).circuit_passed)
        go (inr f) (inl s) = inr (circuit_sound (held_receive s.0 s.1 (eqb-true _ c s.2)).1)
        go (inr f) (inr g) =
            inl (
              (λ n p x. ⊎_elim (λ i. clash (eq-eqb _ c x) (f n p i.0 i.1)) (λ o. some (sym x ∙ (framed.no_link n p o).1)) (placed n p)),
              (λ n k x. ⊎_elim (λ i. clash (eq-eqb _ c x) (g n k i.0 i.1)) (λ o. some (sym x ∙ framed.no_receive n k o)) (placed n k)),
            )

  passes_sound : ltb v.fold (2 ^ v.dimension) ≡ true → ((n p : ℕ) → link_test v n p ≡ true) → ((n k : ℕ) → receive_test v n k ≡ true) → Framed v → Sound v
  passes_sound fold_passes links_pass receives_pass framed =
      record {
        fold_bits = fold_below v fold_passes;
        absent_link = λ n p out. link_absent n p out (links_pass n p);
        absent_receive = λ n k out. (receive_absent n k out (receives_pass n k)).1;
        absent_armed = λ n k out. (receive_absent n k out (receives_pass n k)).0;
        held_enabled = λ n p h. (held_link links_pass receives_pass framed _ h n p refl).on;
        held_armed = λ n k h. (held_receive links_pass receives_pass framed _ h n k refl).0;
        link_number = λ n p. ⊎_elim (λ z. omega arith) (λ h. (circuit_facts _ (held_link links_pass receives_pass framed _ h n p refl).circuit_passed).in_range) (same? (v.owner n p) 0);
        receive_number = λ n k. ⊎_elim (λ z. omega arith) (λ h. (circuit_facts _ (held_receive links_pass receives_pass framed _ h n k refl).1).in_range) (same? (v.receiver n k) 0);
        numbers = number_stands links_pass receives_pass framed;
      }

  -- A table that passes at every entry is sound.
  pub entries_sound : v.dimension ≤ largest_dimension → Framed v → EntriesPass v → Sound v
  entries_sound fits framed pass = passes_sound pass.fold_passes links receives framed
    where
      links : (n p : ℕ) → link_test v n p ≡ true
      links n p = ⊎_elim (λ i. pass.links_pass n p i.0 i.1) (λ o. absent_passes n p (λ i. clash (and (lt-ltb n 256 (omega (arith, most_nodes fits, i.0))) (lt-ltb p 24 (omega (arith, (present_axis v.dimension v.fold p i.1).0)))) o) (framed.no_link n p o)) (placed n p)

      receives : (n k : ℕ) → receive_test v n k ≡ true
      receives n k = ⊎_elim (λ i. pass.receives_pass n k i.0 i.1) (λ o. free_receive n k (framed.no_receive n k o) (λ out. framed.no_armed n k o)) (placed n k)

-- A made table is sound.
pub fresh_sound : (D : ℕ) → Sound (fresh D)
unfolding fresh
fresh_sound D =
    record {
      fold_bits = λ p t. absurd (clash t (zero_has p));
      absent_link = λ n p h. (is_false (is_link_of (unfolded D) n p) (λ e. h (is_link (unfolded D) n p e)), refl);
      absent_receive = λ n k h. refl;
      absent_armed = λ n k h. refl;
      held_enabled = λ n p h. absurd (h refl);
      held_armed = λ n k h. absurd (h refl);
      link_number = λ n p. omega arith;
      receive_number = λ n k. omega arith;
      numbers = λ c h. inl (λ n p e. h (sym e), λ n k e. h (sym e));
    }
