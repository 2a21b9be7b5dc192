-- Setting a fold mask: what the bytes are once the masks of so many nodes are written.
-- Assumes nothing.
use mathlib.Core.Path.{◌≡◌, refl, ap, ap₂, sym, ◌∙◌}
use mathlib.Core.Logic.{◌⊎◌, inl, inr, ⊎_elim, ◌≢◌}
use mathlib.Core.Bool.{Bool, true, false, cond, not, ◌&&◌, ◌||◌, beq, and-false}
use mathlib.Core.List.{List}
use Prim.Native.Nat.{ℕ, ◌+◌, ◌-◌, ◌*◌, ◌^◌, ◌≤◌, ◌<◌}
use native.Mathlib.Omega.{arith}
use lib.Dec.{eqb, ltb}
use lib.Bits.{bit_and, bit_or, bit_xor, and_le_l, or_lt}
use lib.ListN.{length, get_or, set, length-set}
use lib.Seq.{get_or-set_same, get_or-set_other, set_out}
use borrow.Author.Tests.{lt-ltb, le-ltb, eq-eqb, ne_eqb, ltb-true}
use Rattle.common.proofs.Tests.{same?, below_or, both, clash, is_false}
use Rattle.common.proofs.Every.{at}
use Rattle.cube.specs.Bits.{has}
use Rattle.cube.specs.Axes.{axis, partner, present}
use Rattle.cube.specs.Cube.{largest_dimension}
use Rattle.cube.specs.CubeContracts.{WithPartners, Partners}
use Rattle.cube.proofs.Axes.{axis_low, present_low, present_axis}
use Rattle.cube.proofs.Bits.{has_and, has_or, has_xor, high_has}
use Rattle.cube.proofs.Ports.{most_nodes}
use Rattle.cube.proofs.PartnerPorts.{axis_high, partner_axis, partner_back, present_partner, present_above}
use Rattle.layout.specs.Layout.{wide_ports, wide_length, in_table, dimension_at, fold_at, mask_place, mask_number, mask_at, entry_place, entry_at}
use Rattle.layout.specs.LayoutContracts.{put_number}
use Rattle.layout.specs.Resources.{wide_laws}
use Rattle.layout.proofs.Folds.{fold_wide}
use Rattle.layout.proofs.Entries.{within, inside}
use Rattle.entries.proofs.EnableBits.{enable_number}
use Rattle.table.specs.View.{view}
use Rattle.table.specs.Folding.{set_fold}
use Rattle.table.specs.Encode.{encode_over}
use Rattle.table.specs.TableContracts.{EnablesFit}
use Rattle.table.proofs.Views.{of_links, of_channels, number_same, number_long, number_apart, number_there, entry_same, mask_same}
use Rattle.table.proofs.Views as views
use Rattle.table.proofs.Encoded.{encode_shown_over}

-- a mask with the bits that are kept of it and those that are added
abbrev pub changed : (kept added x : ℕ) → ℕ
changed kept added x = bit_or (bit_and x kept) added

-- the fold mask, the masks of the first k nodes changed, and all else as it was
pub record Folding (old : List ℕ) (fold kept added k : ℕ) (b : List ℕ) : Type 0 where
  pub size : length b ≡ wide_length
  pub folded : get_or b 1 0 ≡ fold
  pub masks : (n : ℕ) → n < k → mask_number 18 b (2 + 3 * n) ≡ changed kept added (mask_number 18 old (2 + 3 * n))
  pub rest : (j : ℕ) → j ≢ 1 → (j < 2) ⊎ (2 + 3 * k ≤ j) → get_or b j 0 ≡ get_or old j 0

-- the bytes once the fold mask is written
pub begun : {old : List ℕ} (fold kept added : ℕ) → length old ≡ wide_length → Folding old fold kept added 0 (set old 1 fold)
begun {old} fold kept added l =
    record {
      size = length-set old 1 fold ∙ l;
      folded = get_or-set_same old 1 fold 0 (omega (arith, l));
      masks = λ n h. absurd (omega arith);
      rest = λ j ne s. get_or-set_other old 1 j fold 0 ne;
    }

pub set_small : (b : List ℕ) (i x : ℕ) → ((j : ℕ) → get_or b j 0 < 256) → x < 256 → (j : ℕ) → get_or (set b i x) j 0 < 256
set_small b i x small h j = ⊎_elim (λ e. rw e (go (below_or (length b) i))) (λ ne. rw (get_or-set_other b i j x 0 ne) (small j)) (same? j i)
  where
    go : (i < length b) ⊎ (length b ≤ i) → get_or (set b i x) i 0 < 256
    go (inl l) = rw (get_or-set_same b i x 0 l) h
    go (inr l) = rw (set_out b i x l) (small i)

-- a mask that is still to be changed
pub unchanged_yet : {old b : List ℕ} {fold kept added k : ℕ} → Folding old fold kept added k b → mask_number 18 b (2 + 3 * k) ≡ mask_number 18 old (2 + 3 * k)
unchanged_yet {old} {b} {fold} {kept} {added} {k} g = number_same 18 (inr refl) b old (2 + 3 * k) (λ j h l. g.rest j (λ e. omega arith) (inr h))

-- one mask more
pub one_more : {old b : List ℕ} {fold kept added k i x : ℕ} → Folding old fold kept added k b → k < 256 → i ≡ 2 + 3 * k → x ≡ mask_number 18 b i → Folding old fold kept added (k + 1) (put_number 18 b i (changed kept added x))
one_more {old} {b} {fold} {kept} {added} {k} {i} {x} g h e f =
    record {
      size = number_long 18 (inr refl) b i y ∙ g.size;
      folded = number_apart 18 (inr refl) b i y 1 (inl (omega (arith, e))) ∙ g.folded;
      masks = λ n l. ⊎_elim (λ z. rw z here) (λ z. number_same 18 (inr refl) (put_number 18 b i y) b (2 + 3 * n) (λ j v w. number_apart 18 (inr refl) b i y j (inl (omega (arith, e)))) ∙ g.masks n (omega arith)) (same? n k);
      rest = λ j ne s. number_apart 18 (inr refl) b i y j (⊎_elim (λ z. inl (omega (arith, e))) (λ z. inr (omega (arith, e))) s) ∙ g.rest j ne (⊎_elim (λ z. inl z) (λ z. inr (omega arith)) s);
    }
  where
    y : ℕ
    y = changed kept added x

    here : mask_number 18 (put_number 18 b i y) (2 + 3 * k) ≡ changed kept added (mask_number 18 old (2 + 3 * k))
    here = ap (mask_number 18 (put_number 18 b i y)) (sym e) ∙ number_there 18 (inr refl) b i y (omega (arith, e, g.size)) ∙ ap (changed kept added) (f ∙ ap (mask_number 18 b) e ∙ unchanged_yet g)

-- what a mask takes
pub changed_small : (kept : ℕ) {added x : ℕ} → x < 2 ^ 24 → added < 2 ^ 18 → changed kept added x < 2 ^ 24
changed_small kept {added} {x} h l = or_lt 24 (bit_and x kept) added (omega (arith, h, and_le_l x kept)) (omega (arith, l))

-- a port of a dimension that is folded now: l says that it is below D, and y that a byte has it; it was enabled (x), and folded before (o)
mixed : (x f o l y : Bool) → (f ≡ true → l ≡ true) → (f ≡ true → y ≡ true) → ((x && ((f && o) && y)) || not (beq f (f && o))) ≡ ((l && f) && (x || not o))
mixed true true true true true g h = refl
mixed true true false true true g h = refl
mixed false true true true true g h = refl
mixed false true false true true g h = refl
mixed x true o false y g h = absurd (clash (g refl) refl)
mixed x true o l false g h = absurd (clash (h refl) refl)
mixed true false true true y g h = refl
mixed true false false true y g h = refl
mixed false false true true y g h = refl
mixed false false false true y g h = refl
mixed true false true false y g h = refl
mixed true false false false y g h = refl
mixed false false true false y g h = refl
mixed false false false false y g h = refl

all_bits : (p : ℕ) → p < 8 → has 255 p ≡ true
unfolding has
all_bits p h = at 8 (has 255) refl p h

module _ (D before fold stay kept added : ℕ) (most : D ≤ largest_dimension) (bits : fold < 2 ^ D) (staying : stay ≡ bit_and fold before) (keeps : WithPartners stay 255 kept) (adds : Partners (bit_xor fold stay) added) where
  low_bit : (p : ℕ) → has fold p ≡ true → p < D
  low_bit p t = ⊎_elim (λ l. l) (λ l. absurd (clash t (high_has D fold p bits l))) (below_or D p)

  -- the bits of a changed mask, of which those that were set were of ports of the cube
  changed_bits : (x q : ℕ) → (has x q ≡ true → present D before q ≡ true)
      → has (changed kept added x) q ≡ cond (eqb q (axis q)) (has x q) (present D fold q && (has x q || not (has before (axis q))))
  changed_bits x q there = split ∙ ⊎_elim own (λ l. ⊎_elim (λ h. other h l) above (below_or 18 q)) (below_or 9 q)
    where
      split : has (changed kept added x) q ≡ ((has x q && has kept q) || has added q)
      split = has_or (bit_and x kept) added q ∙ ap (◌|| has added q) (has_and x kept q)

      own : q < 9 → ((has x q && has kept q) || has added q) ≡ cond (eqb q (axis q)) (has x q) (present D fold q && (has x q || not (has before (axis q))))
      own h = rw (eq-eqb q (axis q) (sym (axis_low q h)), keeps.given q h, adds.low q h) (go (has x q) refl)
        where
          go : (y : Bool) → has x q ≡ y → ((y && has 255 q) || false) ≡ y
          go true e = let l = ltb-true q D (sym (present_low D before q h) ∙ there e) in rw (all_bits q (omega (arith, l, most))) refl
          go false e = refl

      other : q < 18 → 9 ≤ q → ((has x q && has kept q) || has added q) ≡ cond (eqb q (axis q)) (has x q) (present D fold q && (has x q || not (has before (axis q))))
      other h l = subst₂ q (partner_back q h) (omega (arith, partner_is))
        where
          partner_is : partner q ≡ 17 - q
          partner_is = unfold partner in refl

          subst₂ : (r : ℕ) → partner (partner q) ≡ r → partner q < 9 → ((has x r && has kept r) || has added r) ≡ cond (eqb r (axis r)) (has x r) (present D fold r && (has x r || not (has before (axis r))))
          subst₂ r e s =
              rw (
                ← e,
                partner_axis (partner q) s,
                ne_eqb (partner (partner q)) (partner q) (λ z. omega (arith, z, partner_back q h, partner_is)),
                keeps.partners (partner q) s,
                adds.high (partner q) s,
                present_partner D fold (partner q) s,
                staying,
                has_xor fold (bit_and fold before) (partner q),
                has_and fold before (partner q),
              )
              (mixed (has x (partner (partner q))) (has fold (partner q)) (has before (partner q)) (ltb (partner q) D) (has 255 (partner q)) (λ t. lt-ltb (partner q) D (low_bit (partner q) t)) (λ t. all_bits (partner q) (omega (arith, low_bit (partner q) t, most))))

      above : 18 ≤ q → ((has x q && has kept q) || has added q) ≡ cond (eqb q (axis q)) (has x q) (present D fold q && (has x q || not (has before (axis q))))
      above h =
          rw (ne_eqb q (axis q) (λ z. omega (arith, z, axis_high q (omega arith))), high_has 18 kept q keeps.small h, high_has 18 added q adds.small h, sym (present_above D fold q h), and-false (has x q)) refl

-- What the bytes show once the masks of all nodes are changed.
module _ (old b : List ℕ) (fold stay kept added : ℕ) (long : length old ≡ wide_length) (most : dimension_at old ≤ largest_dimension) (bits : fold < 2 ^ dimension_at old) (fits : EnablesFit old)
    (staying : stay ≡ bit_and fold (fold_at old)) (keeps : WithPartners stay 255 kept) (adds : Partners (bit_xor fold stay) added) (g : Folding old fold kept added (2 ^ dimension_at old) b) where
  abbrev D : ℕ
  D = dimension_at old

  nodes_most : 2 ^ D ≤ 256
  nodes_most = most_nodes {D = D} (omega (arith, most))

  -- bytes behind the masks
  behind : (j : ℕ) → 770 ≤ j → get_or b j 0 ≡ get_or old j 0
  behind j h = g.rest j (λ e. omega arith) (inr (omega (arith, nodes_most)))

  entries : (w part : ℕ) → 770 ≤ part → (n k : ℕ) → entry_at w part b n k ≡ entry_at w part old n k
  entries w part h n k =
      entry_same w b old part n k (λ i l. ap₂ (λ x y. x + 256 * y) (behind (entry_place w part n k) (omega arith)) (behind (entry_place w part n k + 1) (omega arith)))

  arms : (n k : ℕ) → mask_at 8 14082 b n k ≡ mask_at 8 14082 old n k
  arms n k = mask_same 8 b old 14082 n k (λ i. number_same 8 (inl refl) b old (mask_place 8 14082 n) (λ j h l. behind j (omega arith)))

  -- a bit that was set is that of a link of the cube
  was_there : (n q : ℕ) → n < 256 → has (mask_number 18 old (2 + 3 * n)) q ≡ true → (n < 2 ^ D) × (present D (fold_at old) q ≡ true)
  unfolding EnablesFit view
  was_there n q h t = fits n q h (ap (λ x. has x q) (sym (enable_number wide_laws old n long refl refl)) ∙ t)

  abbrev shown : ℕ → ℕ → Bool → Bool
  shown n q x = cond (eqb q (axis q)) x ((ltb n (2 ^ D) && present D fold q) && (x || not (has (fold_at old) (axis q))))

  none_shown : (n q : ℕ) → (ltb n (2 ^ D) && present D fold q) ≡ false → shown n q false ≡ false
  none_shown n q e = rw e (go (eqb q (axis q)))
    where
      go : (y : Bool) → cond y false false ≡ false
      go true = refl
      go false = refl

  masks_shown : (n q : ℕ) → mask_at 18 2 b n q ≡ shown n q (mask_at 18 2 old n q)
  unfolding mask_at
  masks_shown n q = go (in_table 24 n q) refl
    where
      x : ℕ
      x = mask_number 18 old (2 + 3 * n)

      go : (y : Bool) → in_table 24 n q ≡ y → y && has (mask_number 18 b (2 + 3 * n)) q ≡ shown n q (y && has x q)
      go true e = ⊎_elim cube absent (below_or (2 ^ D) n)
        where
          node : n < 256
          node = (inside {w = 24} n q e).0

          cube : n < 2 ^ D → has (mask_number 18 b (2 + 3 * n)) q ≡ shown n q (has x q)
          cube l =
              rw (lt-ltb n (2 ^ D) l)
              (ap (λ z. has z q) (g.masks n l) ∙ changed_bits D (fold_at old) fold stay kept added most bits staying keeps adds x q (λ t. (was_there n q node t).1))

          absent : 2 ^ D ≤ n → has (mask_number 18 b (2 + 3 * n)) q ≡ shown n q (has x q)
          absent l =
              let same : mask_number 18 b (2 + 3 * n) ≡ x = number_same 18 (inr refl) b old (2 + 3 * n) (λ j h k. g.rest j (λ e. omega arith) (inr (omega arith))) in
              let clear : has x q ≡ false = is_false _ (λ t. omega (arith, l, (was_there n q node t).0)) in
              ap (λ z. has z q) same ∙ clear ∙ sym (ap (shown n q) clear ∙ none_shown n q (ap (◌&& present D fold q) (le-ltb n (2 ^ D) l)))
      go false e = sym (none_shown n q (is_false _ (λ t.
          let r = both (ltb n (2 ^ D)) _ t in
          let p = present_axis D fold q r.1 in
          clash (within {w = 24} n q (omega (arith, ltb-true n (2 ^ D) r.0, nodes_most)) (omega (arith, p.0))) e)))

  pub folding_shown : view b ≡ set_fold (view old) fold
  unfolding view set_fold dimension_at
  folding_shown = λ i.
      record {
        dimension = g.rest 0 (λ e. omega arith) (inl (omega arith)) i;
        fold = (fold_wide b g.size ∙ g.folded) i;
        enabled = λ n q. (views.at ((of_links wide_laws b).enabled_is b g.size) n q ∙ masks_shown n q ∙ ap (shown n q) (sym (views.at ((of_links wide_laws old).enabled_is old long) n q))) i;
        owner = λ n p. (views.at ((of_links wide_laws b).owner_is b g.size) n p ∙ entries 18 770 (omega arith) n p ∙ sym (views.at ((of_links wide_laws old).owner_is old long) n p)) i;
        receiver = λ n k. (views.at ((of_channels wide_laws b).owner_is b g.size) n k ∙ entries 8 9986 (omega arith) n k ∙ sym (views.at ((of_channels wide_laws old).owner_is old long) n k)) i;
        armed = λ n k. (views.at ((of_channels wide_laws b).enabled_is b g.size) n k ∙ arms n k ∙ sym (views.at ((of_channels wide_laws old).enabled_is old long) n k)) i;
      }

  pub folding_encoded : ((i : ℕ) → get_or b i 0 < 256) → b ≡ encode_over wide_ports (set_fold (view old) fold)
  folding_encoded small = encode_shown_over wide_ports (inr refl) b (set_fold (view old) fold) record { long = g.size; small = small } folding_shown
