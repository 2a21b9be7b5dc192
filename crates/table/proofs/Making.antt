-- Making a table: what its bytes are once the masks of so many nodes are written.
-- Assumes nothing.
use mathlib.Core.Path.{◌≡◌, refl, ap, sym, ◌∙◌, subst}
use mathlib.Core.Logic.{◌⊎◌, inl, inr, ⊎_elim}
use mathlib.Core.Bool.{Bool, true, false, cond, ◌&&◌, beq, true≢false, and-false}
use mathlib.Core.List.{List, [], ◌∷◌, ◌++◌, append-nil}
use Prim.Native.Nat.{ℕ, zero, suc, ◌+◌, ◌-◌, ◌*◌, ◌^◌, ◌≤◌, ◌<◌}
use native.Mathlib.Omega.{arith}
use lib.Dec.{ltb, lit≤}
use lib.ListN.{length, take, drop, get_or, set, replicate, drop_of_length-le}
use Rattle.std.proofs.lemmas.List.{length-take-le}
use borrow.Rule.Slice.PartMut.{put_mid}
use borrow.Author.Tests.{ltb-true, lt-ltb, le-ltb}
use Rattle.common.proofs.Tests.{same?, below_or}
use Rattle.common.proofs.Every.{at₂}
use Rattle.cube.specs.Bits.{has}
use Rattle.cube.specs.Cube.{largest_dimension}
use Rattle.cube.proofs.Bits.{zero_has}
use Rattle.cube.proofs.PartnerPorts.{unfolded_present}
use Rattle.cube.proofs.Ports.{most_nodes}
use Rattle.layout.specs.Layout.{length_of, in_table, dimension_at, fold_at, mask_size, mask_place, mask_number, mask_at, entry_place, entry_at, word_at}
use Rattle.layout.specs.LayoutContracts.{put_number}
use Rattle.layout.specs.Resources.{Width, LayoutLaws}
use Rattle.layout.proofs.Entries.{by_width, inside}
use Rattle.table.specs.View.{view, fresh}
use Rattle.table.specs.Encode.{encode_over}
use Rattle.table.proofs.Views.{at, of_links, of_channels, number_same, number_long, number_apart, number_there, mask_inside}
use Rattle.layout.proofs.Folds.{fold_none, fold_wide}
use Rattle.table.proofs.Encoded.{encode_shown_over}
use Rattle.cube.proofs.PartnerPorts.{same_test}
use Rattle.table.proofs.Made.{zeros}

-- the dimension, the masks of the first k nodes with all bits of the dimension, and zeros
pub record Making (q enable long D k : ℕ) (b : List ℕ) : Type 0 where
  pub size : length b ≡ long
  pub first : get_or b 0 0 ≡ D
  pub masks : (n : ℕ) → n < k → mask_number q b (mask_place q enable n) ≡ 2 ^ D - 1
  pub rest : (j : ℕ) → 1 ≤ j → (j < enable) ⊎ (enable + mask_size q * k ≤ j) → get_or b j 0 ≡ 0

-- the bytes once the dimension and zeros are written
pub cleared : (b : List ℕ) (q enable long D k : ℕ) (zs : List ℕ) → length b ≡ long → 0 < long → k ≡ length (set b 0 D) - 1 → zs ≡ replicate (length zs) 0 → length zs ≡ length (take k (drop 1 (set b 0 D)))
    → Making q enable long D 0 (put_mid 1 k (set b 0 D) zs)
cleared [] q enable long D k zs l some count z e = absurd (omega arith)
cleared (x ∷ bs) q enable long D k zs l some count z e =
    record { size = ap suc (ap length whole ∙ all) ∙ l; first = refl; masks = λ n h. absurd (omega arith); rest = behind }
  where
    all : length zs ≡ length bs
    all = e ∙ length-take-le k bs (omega arith) ∙ omega arith

    whole : zs ++ drop k bs ≡ zs
    whole = ap (zs ++◌) (drop_of_length-le bs {i = k} (omega arith)) ∙ append-nil zs

    behind : (j : ℕ) → 1 ≤ j → (j < enable) ⊎ (enable + mask_size q * 0 ≤ j) → get_or (D ∷ (zs ++ drop k bs)) j 0 ≡ 0
    behind zero h s = absurd (omega arith)
    behind (suc j) h s = ap (λ ys. get_or ys j 0) (whole ∙ z) ∙ zeros (length zs) j

module _ {long q enable links receives arms : ℕ} (laws : LayoutLaws long q enable links receives arms) (D : ℕ) (most : D ≤ largest_dimension) where
  nodes_most : 2 ^ D ≤ 256
  nodes_most = most_nodes {D = D} (omega arith)

  width : Width q
  width = laws.ports_are

  -- one mask more
  pub masked : (b : List ℕ) (k i x : ℕ) → Making q enable long D k b → k < 2 ^ D → i ≡ mask_place q enable k → x ≡ 2 ^ D - 1 → Making q enable long D (k + 1) (put_number q b i x)
  masked b k i x g h e f =
      record {
        size = number_long q width b i x ∙ g.size;
        first = number_apart q width b i x 0 (inl (omega (arith, e, laws.enable_is))) ∙ g.first;
        masks = λ n l. ⊎_elim (λ (z : n ≡ k). rw (z, ← e) (number_there q width b i x room ∙ f)) (λ z. number_same q width (put_number q b i x) b (mask_place q enable n) (λ j y w. number_apart q width b i x j (inl (omega (arith, e, before n (omega arith))))) ∙ g.masks n (omega arith)) (same? n k);
        rest = λ j l s. number_apart q width b i x j (⊎_elim (λ z. inl (omega (arith, e))) (λ z. inr (omega (arith, e, z, next))) s) ∙ g.rest j l (⊎_elim (λ z. inl z) (λ z. inr (omega (arith, z, next))) s);
      }
    where
      room : i + mask_size q ≤ length b
      room = omega (arith, e, g.size, laws.long_is, laws.enable_is, mask_inside q enable k width (omega (arith, nodes_most)))

      before : (n : ℕ) → n < k → mask_place q enable n + mask_size q ≤ mask_place q enable k
      before n l = by_width (λ q. mask_place q enable n + mask_size q ≤ mask_place q enable k) q width (omega arith) (omega arith)

      next : mask_size q * (k + 1) ≡ mask_size q * k + mask_size q
      next = by_width (λ q. mask_size q * (k + 1) ≡ mask_size q * k + mask_size q) q width (omega arith) (omega arith)

  -- all D bits, and no other, of a mask
  all_ones : (p : ℕ) → p < 24 → has (2 ^ D - 1) p ≡ ltb p D
  all_ones p l = same_test _ _ (at₂ 9 24 (λ D p. beq (has (2 ^ D - 1) p) (ltb p D)) (unfold has in refl) D p (omega arith) l)

  module _ (b : List ℕ) (g : Making q enable long D (2 ^ D) b) where
    nodes_room : mask_size q * 2 ^ D ≤ mask_size q * 256
    nodes_room = by_width (λ q. mask_size q * 2 ^ D ≤ mask_size q * 256) q width (omega (arith, nodes_most)) (omega (arith, nodes_most))

    zero_from : (j : ℕ) → enable + 256 * mask_size q ≤ j → get_or b j 0 ≡ 0
    zero_from j h = g.rest j (omega (arith, laws.enable_is)) (inr (omega (arith, nodes_room)))

    -- a mask behind those that are written
    no_mask : (n : ℕ) → 2 ^ D ≤ n → mask_number q b (mask_place q enable n) ≡ 0
    unfolding mask_number
    no_mask n h = go width
      where
        past : mask_size q * 2 ^ D ≤ mask_size q * n
        past = by_width (λ q. mask_size q * 2 ^ D ≤ mask_size q * n) q width (omega arith) (omega arith)

        none : (j : ℕ) → get_or b (mask_place q enable n + j) 0 ≡ 0
        none j = g.rest (mask_place q enable n + j) (omega (arith, laws.enable_is)) (inr (omega (arith, past)))

        go : Width q → mask_number q b (mask_place q enable n) ≡ 0
        go (inl e) = let z : mask_place q enable n + 0 ≡ mask_place q enable n = omega arith in rw e (subst (λ (w : ℕ). get_or b (mask_place w enable n) 0 ≡ 0) e (ap (λ i. get_or b i 0) (sym z) ∙ none 0))
        go (inr e) =
            let z : mask_place q enable n + 0 ≡ mask_place q enable n = omega arith in
            let first = subst (λ (w : ℕ). get_or b (mask_place w enable n) 0 ≡ 0) e (ap (λ i. get_or b i 0) (sym z) ∙ none 0) in
            let second = subst (λ (w : ℕ). get_or b (mask_place w enable n + 1) 0 ≡ 0) e (none 1) in
            let third = subst (λ (w : ℕ). get_or b (mask_place w enable n + 2) 0 ≡ 0) e (none 2) in
            rw (e, first, second, third) refl

    enabled_shown : (n p : ℕ) → mask_at q enable b n p ≡ ltb n (2 ^ D) && ltb p D
    unfolding mask_at
    enabled_shown n p = go (in_table (8 * mask_size q) n p) refl (below_or (2 ^ D) n)
      where
        bits_most : Width q → 8 * mask_size q ≤ 24
        bits_most (inl e) = rw e (lit≤ tt)
        bits_most (inr e) = rw e (lit≤ tt)

        bits_least : Width q → 8 ≤ 8 * mask_size q
        bits_least (inl e) = rw e (lit≤ tt)
        bits_least (inr e) = rw e (lit≤ tt)

        outside : in_table (8 * mask_size q) n p ≡ false → n < 2 ^ D → (z : Bool) → ltb p D ≡ z → z ≡ false
        outside e l true f = absurd (true≢false (sym (rw (lt-ltb n 256 (omega (arith, nodes_most)), lt-ltb p (8 * mask_size q) (omega (arith, bits_least width, ltb-true p D f)))) ∙ e))
        outside e l false f = refl

        go : (x : Bool) → in_table (8 * mask_size q) n p ≡ x → (n < 2 ^ D) ⊎ (2 ^ D ≤ n) → x && has (mask_number q b (mask_place q enable n)) p ≡ ltb n (2 ^ D) && ltb p D
        go true e (inl l) = rw (lt-ltb n (2 ^ D) l, g.masks n l) (all_ones p (omega (arith, bits_most width, (inside {w = 8 * mask_size q} n p e).1)))
        go true e (inr l) = rw (le-ltb n (2 ^ D) l, no_mask n l) (zero_has p)
        go false e (inl l) = rw (lt-ltb n (2 ^ D) l) (sym (outside e l (ltb p D) refl))
        go false e (inr l) = rw (le-ltb n (2 ^ D) l) refl

    entry_shown : (w part : ℕ) → enable + 256 * mask_size q ≤ part → (n k : ℕ) → entry_at w part b n k ≡ 0
    unfolding entry_at
    entry_shown w part h n k = go (in_table w n k)
      where
        go : (x : Bool) → cond x (word_at b (entry_place w part n k)) 0 ≡ 0
        go true = rw (zero_from (entry_place w part n k) (omega arith), zero_from (entry_place w part n k + 1) (omega arith)) refl
        go false = refl

    armed_shown : (n k : ℕ) → mask_at 8 arms b n k ≡ false
    unfolding mask_at mask_number
    armed_shown n k = rw (zero_from (mask_place 8 arms n) (omega (arith, laws.arms_is, laws.enable_is)), zero_has k) (and-false (in_table 8 n k))

    folded_shown : fold_at b ≡ 0
    folded_shown = go width
      where
        go : Width q → fold_at b ≡ 0
        go (inl e) = fold_none b (g.size ∙ laws.long_is ∙ ap length_of e)
        go (inr e) = fold_wide b (g.size ∙ laws.long_is ∙ ap length_of e) ∙ g.rest 1 (omega arith) (inl (omega (arith, laws.enable_is, e)))

    pub made_shown : view b ≡ fresh D
    unfolding view fresh dimension_at
    made_shown = λ i.
        record {
          dimension = g.first i;
          fold = folded_shown i;
          enabled = λ n p. (at ((of_links laws b).enabled_is b g.size) n p ∙ enabled_shown n p ∙ ap (ltb n (2 ^ D) &&◌) (sym (unfolded_present D p (omega (arith, most))))) i;
          owner = λ n p. (at ((of_links laws b).owner_is b g.size) n p ∙ entry_shown q links (omega (arith, laws.links_is, laws.enable_is)) n p) i;
          receiver = λ n k. (at ((of_channels laws b).owner_is b g.size) n k ∙ entry_shown 8 receives (omega (arith, laws.receives_is, laws.enable_is)) n k) i;
          armed = λ n k. (at ((of_channels laws b).enabled_is b g.size) n k ∙ armed_shown n k) i;
        }

    pub made_bytes_over : ((i : ℕ) → get_or b i 0 < 256) → b ≡ encode_over q (fresh D)
    made_bytes_over small = encode_shown_over q width b (fresh D) record { long = g.size ∙ laws.long_is; small = small } made_shown
