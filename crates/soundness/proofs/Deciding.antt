-- The hops of the circuits that are received, added up, are as many as the links held exactly where the table is sound.
-- Assumes nothing.
use mathlib.Core.Path.{◌≡◌, refl, ap, sym, ◌∙◌, subst}
use mathlib.Core.Logic.{◌⊎◌, inl, inr, ⊎_elim, ◌≢◌}
use mathlib.Core.Bool.{Bool, true, false, not}
use mathlib.Core.List.{List}
use Prim.Native.Nat.{ℕ, ◌+◌, ◌*◌, ◌/◌, ◌^◌, ◌≤◌, ◌<◌}
use native.Mathlib.Omega.{arith}
use native.Mathlib.Nat.{zero-add, mul-zero, div-eq_of_lt, div-lt_iff_lt-mul}
use lib.Pow.{pow_pos}
use lib.Dec.{eqb}
use lib.ListN.{length, get_or, replicate}
use borrow.Author.Tests.{eqb-true, eqb-false, eq-eqb, ne_eqb}
use Rattle.std.proofs.Common.{Option, None, Some}
use Rattle.common.specs.Decides.{Decides}
use Rattle.common.specs.Lists.{◌∈◌, from}
use Rattle.common.proofs.Lists.{keep_nil}
use Rattle.common.proofs.Every.{decide₂}
use Rattle.common.proofs.Tests.{same?, below_or, clash, is_false, both, and, decided_no}
use Rattle.cube.specs.Bits.{has}
use Rattle.cube.specs.Cube.{largest_dimension, channels, cube_nodes, NodeOf, source_of}
use Rattle.cube.proofs.Bits.{high_has, no_bit_above, no_ports}
use Rattle.paths.specs.Network.{Path, links}
use Rattle.paths.specs.Permitted.{Permitted}
use Rattle.paths.specs.CubeNetwork.{LinkOf, is_link_of, ports, circuit_count}
use Rattle.paths.proofs.Apart.{permitted_inside}
use Rattle.paths.proofs.Sentences.{permitted_end}
use Rattle.paths.proofs.CubeNetwork.{port_there}
use Rattle.paths.proofs.Links.{On}
use Rattle.layout.specs.Layout.{dimension_at, fold_at, ports_in, mask_size, mask_place, mask_number, enable_part, enabled_at, owner_at, entry_at, receiver_at, armed_at, arm_part, entry_count}
use Rattle.layout.specs.Resources.{Width, width_in}
use Rattle.entries.specs.EntryContracts.{enable_bits, arm_bits}
use Rattle.table.specs.TableContracts.{place_count, EnablesFit, ArmsFit}
use Rattle.table.specs.View.{View, view, shape_of, net, held_by}
use Rattle.layout.proofs.Entries.{mask_has}
use Rattle.table.proofs.Encode.{number_small}
use Rattle.circuit_path.specs.CircuitSound.{end_for, CircuitSound}
use Rattle.soundness.specs.Sound.{Nowhere, Sound}
use Rattle.soundness.specs.SoundTest.{sound_test}
use Rattle.soundness.specs.Counting.{Earlier, ReceivedBefore, CircuitFollowed, Counting, Counts, CountsUnheld}
use Rattle.soundness.proofs.Soundness.{placed, link_stands, is_link, no_link}
use Rattle.soundness.proofs.LinkCount.{links_same, links_more, links_parts}
use Rattle.soundness.proofs.Passing.{off, unarmed, arm_number, view_framed, decided, same_answer}
use Rattle.soundness.proofs.Counting.{counting_none}
use Rattle.circuit_hops.proofs.Ways.{shown}

-- what the cube lacks is off
absent_off : (b : List ℕ) → EnablesFit b → (n p : ℕ) → n < 256 → (LinkOf (shape_of (view b)) n p → ⊥) → (view b).enabled n p ≡ false
unfolding view
absent_off b fit n p i out = off b n p i fit out

absent_unarmed : (b : List ℕ) → ArmsFit b (dimension_at b) → (n k : ℕ) → (NodeOf (view b).dimension n → ⊥) → (view b).armed n k ≡ false
unfolding view
absent_unarmed b arms n k out = ⊎_elim (λ l. absurd (out l)) (λ l. unarmed b (dimension_at b) n k arms l) (below_or (2 ^ dimension_at b) n)

-- a link that is held is one that the table has
pub owner_placed : (b : List ℕ) (n p : ℕ) → (view b).owner n p ≢ 0 → (n < 256) × (p < ports_in b)
unfolding view owner_at entry_at
owner_placed b n p h = ⊎_elim (λ i. i) (λ o. absurd (h (rw o refl))) (placed {w = ports_in b} n p)

-- the answer whether the held channels of a node are armed
module _ (b : List ℕ) (n : ℕ) {answer : Bool} (d : Decides ((k : ℕ) → k < channels → receiver_at b n k ≢ 0 → armed_at b n k ≡ true) answer) where
  pub unarmed_fails : answer ≡ false → Sound (view b) → ⊥
  unfolding view
  unarmed_fails e s = d.fails e (λ k l z. s.held_armed n k z)

  pub armed_held : answer ≡ true → (k : ℕ) → k < channels → (view b).receiver n k ≢ 0 → (view b).armed n k ≡ true
  unfolding view
  armed_held e = d.holds e

  pub absent_unheld : answer ≡ true → ((n k : ℕ) → cube_nodes (dimension_at b) ≤ n → armed_at b n k ≡ false) → cube_nodes (dimension_at b) ≤ n → (k : ℕ) → k < channels → (view b).receiver n k ≡ 0
  unfolding view
  absent_unheld e arms l k i = ⊎_elim (λ z. z) (λ z. absurd (clash (d.holds e k i z) (arms n k l))) (same? (receiver_at b n k) 0)

-- all receive channels were looked at, and all held links are enabled and counted
module _ (b : List ℕ) (d : dimension_at b ≤ largest_dimension) (fold_fits : fold_at b < 2 ^ dimension_at b) (fit : EnablesFit b) (arms : ArmsFit b (dimension_at b)) (q : ℕ) (width : Width q) (ports_q : ports_in b ≡ q) {hops unheld : ℕ} {m : List ℕ} (x : Counting q (view b) (channels * 256) hops m)
    (on : (n p : ℕ) → n < 256 → p < q → (view b).owner n p ≢ 0 → (view b).enabled n p ≡ true) (counted : place_count q (held_by (view b) 0) (entry_count q) ≡ unheld) where
  v : View
  v = view b

  held : ℕ → ℕ → Bool
  held n p = not (held_by (view b) 0 n p)

  is_held : (n p : ℕ) → (view b).owner n p ≢ 0 → held n p ≡ true
  is_held n p h = unfold held in ap not (ne_eqb _ 0 h)

  on_held : (n p : ℕ) → x.on n p ≡ true → held n p ≡ true
  on_held n p e = is_held n p (x.on_paths n p e).2

  held_count : place_count q held (entry_count q) + unheld ≡ entry_count q
  held_count = unfold held in omega (arith, links_parts q (held_by (view b) 0), counted)

  small : (view b).dimension ≤ largest_dimension
  small = omega (arith, shown b)

  -- a place in the table is before the last one
  earlier : (n k : ℕ) → n < 256 → k < channels → Earlier (channels * 256) n k
  earlier n k i l = (l, omega arith)

  in_table : (n k : ℕ) → (view b).receiver n k ≢ 0 → Earlier (channels * 256) n k
  in_table n k h = ⊎_elim (λ i. earlier n k i.0 i.1) (λ o. absurd (h ((view_framed b).no_receive n k o))) (placed {w = channels} n k)

  -- a held link is one of the table's
  in_place : (n p : ℕ) → (view b).owner n p ≢ 0 → (n < 256) × (p < q)
  in_place n p h = let i = owner_placed b n p h in (i.0, subst (λ (w : ℕ). p < w) ports_q i.1)

  followed : (n k : ℕ) → (view b).receiver n k ≢ 0 → CircuitFollowed (view b) x.on n k
  followed n k h = x.followed n k (in_table n k h) h

  -- in a sound table every held link is on
  all_on : Sound (view b) → (n p : ℕ) → held n p ≡ true → x.on n p ≡ true
  all_on s n p e = found (link_stands (view b) s n p some)
    where
      some : (view b).owner n p ≢ 0
      some z = clash e (unfold held in ap not (eq-eqb _ 0 z))

      on_way : (a k : ℕ) → (view b).receiver a k ≢ 0 → (z : CircuitSound (view b) ((view b).receiver a k)) → end_for (view b) ((view b).receiver a k) z.path ≡ a
          → held_by (view b) ((view b).receiver a k) n p ≡ true → x.on n p ≡ true
      on_way a k h z q o =
          let t = followed a k h in
          (both (held_by (view b) ((view b).receiver a k) n p) (x.on n p) (t.exactly.all n p (subst (λ (w : Path). (n, p) ∈ links (net (view b)) (source_of ((view b).receiver a k)) w) (t.whole z q) (z.exactly.only n p o)))).1

      found : CircuitSound (view b) ((view b).owner n p) → x.on n p ≡ true
      found z =
          subst (λ (c : ℕ). (z : CircuitSound (view b) c) → end_for (view b) c z.path ≡ end_for (view b) ((view b).owner n p) z₀.path → held_by (view b) c n p ≡ true → x.on n p ≡ true)
          z.receives (on_way (end_for (view b) ((view b).owner n p) z.path) z.receive (λ y. some (sym z.receives ∙ y))) z refl (eq-eqb ((view b).owner n p) ((view b).owner n p) refl)
        where
          z₀ : CircuitSound (view b) ((view b).owner n p)
          z₀ = z

  -- where every held link is on, the table is sound
  module _ (all : (n p : ℕ) → (view b).owner n p ≢ 0 → x.on n p ≡ true) where
    -- the circuit of a held link was received, and its path has the link
    received_by : (n p : ℕ) → (view b).owner n p ≢ 0 → (a : ℕ) × (k : ℕ) × ((view b).receiver a k ≡ (view b).owner n p) × ((view b).receiver a k ≢ 0)
    unfolding ReceivedBefore
    received_by n p h = let r = (x.on_paths n p (all n p h)).3 in (r.0, r.1, r.3, λ z. h (sym r.3 ∙ z))

    link_inside : (n p : ℕ) → (view b).owner n p ≢ 0 → LinkOf (shape_of (view b)) n p
    link_inside n p h =
        let r = received_by n p h in
        let t = followed r.0 r.1 r.3 in
        let c = (view b).receiver r.0 r.1 in
        let in_source : NodeOf (view b).dimension (source_of c) = source_inside c r.3 t.in_range in
        let o : On (net (view b)) (source_of c) t.path n p = unfold On in t.exactly.only n p (and (eq-eqb _ c (sym r.2)) (all n p h)) in
        let i = (permitted_inside (shape_of (view b)) (source_of c) r.0 t.path in_source t.permitted).0 n p o in
        (i.0, port_there (shape_of (view b)) p i.1)
      where
        source_inside : (c : ℕ) → c ≢ 0 → c ≤ circuit_count (shape_of (view b)) → NodeOf (view b).dimension (source_of c)
        source_inside c h l = ⊎_elim (λ z. absurd (h (omega arith))) (λ z. omega arith) (below_or 1 c)

    -- a circuit that is received stands
    circuit_stands : (n k : ℕ) → (view b).receiver n k ≢ 0 → CircuitSound (view b) ((view b).receiver n k)
    circuit_stands n k h =
        record {
          path = t.path;
          permitted = subst (λ (y : ℕ). Permitted (net (view b)) (source_of c) (ports (shape_of (view b))) y t.path) (sym there) t.permitted;
          exactly = record { all = λ m q o. (both _ (x.on m q) (t.exactly.all m q o)).0; only = λ m q o. t.exactly.only m q (and o (all m q (λ z. h (sym (eqb-true _ c o) ∙ z)))) };
          receive = k;
          small = (in_table n k h).0;
          receives = ap (λ y. (view b).receiver y k) there;
          once = λ m j e. let r = x.once m j n k (in_table m j (λ z. h (sym e ∙ z))) (in_table n k h) e (λ z. h (sym e ∙ z)) in (r.0 ∙ sym there, r.1);
        }
      where
        c : ℕ
        c = (view b).receiver n k

        t : CircuitFollowed (view b) x.on n k
        t = followed n k h

        there : end_for (view b) c t.path ≡ n
        there = permitted_end (net (view b)) (source_of c) (ports (shape_of (view b))) n t.path t.permitted

    counted_sound : Sound (view b)
    counted_sound =
        record {
          fold_bits = fold_within;
          absent_link = λ n p out. (enabled_off n p out, zero_of ((view b).owner n p) (λ h. out (link_inside n p h)));
          absent_receive = λ n k out. zero_of ((view b).receiver n k) (λ h. out (followed n k h).node);
          absent_armed = λ n k out. unarmed_at n k out;
          held_enabled = λ n p h. let i = in_place n p h in on n p i.0 i.1 h;
          held_armed = λ n k h. (followed n k h).armed;
          link_number = λ n p. ⊎_elim (λ z. omega arith) (λ h. let r = received_by n p h in subst (λ (y : ℕ). y ≤ circuit_count (shape_of (view b))) r.2 (followed r.0 r.1 r.3).in_range) (same? ((view b).owner n p) 0);
          receive_number = λ n k. ⊎_elim (λ z. omega arith) (λ h. (followed n k h).in_range) (same? ((view b).receiver n k) 0);
          numbers = numbers;
        }
      where
        zero_of : (y : ℕ) → (y ≢ 0 → ⊥) → y ≡ 0
        zero_of y h = ⊎_elim (λ z. z) (λ z. absurd (h z)) (same? y 0)

        fold_within : (p : ℕ) → has (view b).fold p ≡ true → p < (view b).dimension
        fold_within p t = ⊎_elim (λ l. l) (λ l. absurd (clash t (high_has (view b).dimension (view b).fold p fold_low l))) (below_or (view b).dimension p)
          where
            fold_low : (view b).fold < 2 ^ (view b).dimension
            fold_low = unfold view in fold_fits

        enabled_off : (n p : ℕ) → (LinkOf (shape_of (view b)) n p → ⊥) → (view b).enabled n p ≡ false
        enabled_off n p out =
            ⊎_elim (λ (i : (n < 256) × (p < 24)). absent_off b fit n p i.0 out) (λ o. ((view_framed b).no_link n p o).0) (placed {w = 24} n p)

        unarmed_at : (n k : ℕ) → (NodeOf (view b).dimension n → ⊥) → (view b).armed n k ≡ false
        unarmed_at n k out = absent_unarmed b arms n k out

        numbers : (c : ℕ) → c ≢ 0 → Nowhere (view b) c ⊎ CircuitSound (view b) c
        numbers c h = go (decide₂ 256 8 (λ n k. eqb ((view b).receiver n k) c))
          where
            go : ((i : ℕ) × (j : ℕ) × (eqb ((view b).receiver i j) c ≡ true)) ⊎ ((i j : ℕ) → i < 256 → j < channels → eqb ((view b).receiver i j) c ≡ false) → Nowhere (view b) c ⊎ CircuitSound (view b) c
            go (inl r) = let e = eqb-true _ c r.2 in inr (subst (CircuitSound (view b)) e (circuit_stands r.0 r.1 (λ z. h (sym e ∙ z))))
            go (inr f) = inl ((λ n p e. let r = received_by n p (λ z. h (sym e ∙ z)) in nobody r.0 r.1 (r.2 ∙ e)), nobody)
              where
                nobody : (n k : ℕ) → (view b).receiver n k ≢ c
                nobody n k e = ⊎_elim (λ i. clash (eq-eqb _ c e) (f n k i.0 i.1)) (λ o. h (sym e ∙ (view_framed b).no_receive n k o)) (placed {w = channels} n k)

  sum_decides : Decides (Sound (view b)) (eqb (hops + unheld) (entry_count q))
  sum_decides =
      record {
        holds = λ e. counted_sound (λ n p h. links_same q width x.on held on_held (few (eqb-true _ (entry_count q) e)) n p (in_place n p h).0 (in_place n p h).1 (is_held n p h));
        fails = λ e s. eqb-false _ (entry_count q) e (equal (links_more q width x.on held on_held) (links_more q width held x.on (all_on s)));
      }
    where
      few : hops + unheld ≡ entry_count q → place_count q held (entry_count q) ≤ place_count q x.on (entry_count q)
      few e = omega (arith, held_count, x.count)

      equal : place_count q x.on (entry_count q) ≤ place_count q held (entry_count q) → place_count q held (entry_count q) ≤ place_count q x.on (entry_count q) → hops + unheld ≡ entry_count q
      equal l k = omega (arith, held_count, x.count)

-- what the two masks must have in a sound table
module _ (b : List ℕ) (bytes : (i : ℕ) → get_or b i 0 < 256) (s : Sound (view b)) where
  pub sound_arms : ArmsFit b (dimension_at b)
  unfolding ArmsFit view armed_at
  sound_arms n l i =
      no_ports 8 (arm_bits b n) (rw (arm_number b n) (unfold mask_number in bytes (mask_place 8 (arm_part (ports_in b)) n)))
      (λ k j. ap (λ x. has x k) (arm_number b n) ∙ sym (mask_has 8 b n k i j (arm_part (ports_in b))) ∙ s.absent_armed n k (λ h. omega arith))

  pub sound_enables : EnablesFit b
  unfolding EnablesFit enable_bits
  sound_enables n p i t =
      go (is_link_of (shape_of (view b)) n p) refl
    where
      small : mask_number (ports_in b) b (mask_place (ports_in b) (enable_part (ports_in b)) n) < 2 ^ (8 * mask_size (ports_in b))
      small = unfold enable_bits in number_small b bytes (ports_in b) (width_in b) (mask_place (ports_in b) (enable_part (ports_in b)) n)

      on : (view b).enabled n p ≡ true
      on = unfold view enabled_at in ⊎_elim (λ l. mask_has (ports_in b) b n p i l (enable_part (ports_in b)) ∙ t) (λ l. absurd (clash t (high_has (8 * mask_size (ports_in b)) _ p small l))) (below_or (8 * mask_size (ports_in b)) p)

      go : (x : Bool) → is_link_of (shape_of (view b)) n p ≡ x → LinkOf (shape_of (view b)) n p
      go true e = is_link (shape_of (view b)) n p e
      go false e = absurd (clash on (s.absent_link n p (no_link (shape_of (view b)) n p e)).0)

  pub sound_fold : fold_at b < 2 ^ dimension_at b
  unfolding view
  sound_fold = no_bit_above (dimension_at b) (fold_at b) (λ p l. is_false _ (λ t. omega (arith, l, s.fold_bits p t)))

-- a fold mask has nothing at or above the dimension where nothing is left of it behind so many bits
pub mask_fits : (fold D : ℕ) → Decides (fold < 2 ^ D) (eqb (fold / 2 ^ D) 0)
mask_fits fold D = record { holds = λ e. let k = (div-lt_iff_lt-mul {k = 2 ^ D} {x = fold} {y = 1} (pow_pos D)).0 (omega (arith, eqb-true _ 0 e)) in omega arith; fails = λ e l. eqb-false _ 0 e (div-eq_of_lt l) }

-- what two sums answer: whether all links are in them, and false where one of them failed
abbrev pub hops_and_unheld : ℕ → Option ℕ → Option ℕ → Bool
hops_and_unheld q None _ = false
hops_and_unheld q (Some _) None = false
hops_and_unheld q (Some hops) (Some unheld) = eqb (hops + unheld) (entry_count q)

-- the answer of the test: whatever refuses the table, and the sum
module _ (b : List ℕ) (d : dimension_at b ≤ largest_dimension) (q : ℕ) (width : Width q) (ports_q : ports_in b ≡ q) where
  pub refuse : (Sound (view b) → ⊥) → false ≡ sound_test (view b)
  refuse h = same_answer false _ (decided_no h) (decided b d)

  pub sum_answers : fold_at b < 2 ^ dimension_at b → EnablesFit b → ArmsFit b (dimension_at b) → (hops unheld : Option ℕ) (m : List ℕ) → CountsUnheld q (view b) 0 256 unheld → Counts q (view b) 0 (channels * 256) (replicate 256 0) m hops
      → hops_and_unheld q hops unheld ≡ sound_test (view b)
  sum_answers low fit arms None unheld m f x = refuse (x 0 (counting_none q (view b)))
  sum_answers low fit arms (Some hops) None m f x = refuse f
  sum_answers low fit arms (Some hops) (Some unheld) m f x =
      same_answer _ _
      (sum_decides b d low fit arms q width ports_q (subst (λ (y : ℕ). Counting q (view b) (channels * 256) y m) (zero-add hops) (x.counts 0 (counting_none q (view b)))) (λ n p i j h. f.enabled n p (omega arith) i j h)
      (counted (sym (ap (λ k. place_count q (held_by (view b) 0) k) none) ∙ zero) (f.counted ∙ ap (place_count q (held_by (view b) 0)) all)))
      (decided b d)
    where
      none : 0 ≡ q * 0
      none = sym (mul-zero q)

      all : q * 256 ≡ entry_count q
      all = omega arith

      zero : place_count q (held_by (view b) 0) 0 ≡ 0
      zero = unfold place_count from in ap length (keep_nil _)

      counted : {x y : ℕ} → x ≡ 0 → x + unheld ≡ y → y ≡ unheld
      counted e f = omega arith
