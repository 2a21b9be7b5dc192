-- The bytes of a table are determined by what it shows.
-- Assumes nothing.
use mathlib.Core.Path.{◌≡◌, refl, ap, ap₂, sym, ◌∙◌}
use mathlib.Core.Logic.{inl, inr, ⊎_elim}
use mathlib.Core.Bool.{Bool, true, false, cond}
use mathlib.Core.List.{List, [], ◌∷◌, ◌++◌, append_assoc, append-nil}
use Prim.Native.Nat.{ℕ, zero, suc, ◌+◌, ◌*◌, ◌/◌, ◌%◌, ◌^◌, ◌≤◌, ◌<◌}
use native.Mathlib.Omega.{arith}
use lib.Dec.{eqb, lit≤}
use lib.ListN.{length, drop, get_or, drop_of_length-le}
use lib.Seq.{drop-cons}
use lib.Pow.{pow_pos}
use Rattle.common.proofs.Tests.{same?}
use Rattle.cube.specs.Bits.{bit_at, has, flip, with_bit}
use Rattle.cube.specs.Cube.{port_count, channels}
use Rattle.cube.proofs.Bits.{has_bit, has_no_bit, same_bits, zero_has, with_bit_same, with_bit_other, with_bit_inside}
use Rattle.layout.specs.Layout.{table_length, wide_length, length_of, in_table, word_at, dimension_at, fold_at, mask_size, mask_place, mask_number, mask_at, enable_part, arm_part, enabled_at, armed_at, entry_place, entry_at, link_part, receive_part, owner_at, receiver_at, entry_count}
use Rattle.layout.specs.Resources.{Width, ResourceLaws, layout_laws, links_laws, channels_laws}
use Rattle.layout.proofs.Folds.{fold_wide}
use Rattle.layout.proofs.Entries.{by_width, within, mask_has}
use Rattle.entries.specs.EntryContracts.{put_mask, put_enabled, put_armed, put_entry, put_owner, put_receiver}
use Rattle.table.specs.View.{View, view}
use Rattle.table.specs.Encode.{bits_from, mask_of, number_bytes, mask_bytes, entry_bytes, fold_bytes, encode_over, encode}

-- tests that agree make the same number
bits_same : (f g : ℕ → Bool) (p w : ℕ) → ((q : ℕ) → q < p + w → f q ≡ g q) → bits_from f p w ≡ bits_from g p w
unfolding bits_from
bits_same f g p zero h = refl
bits_same f g p (suc w) h = ap₂ ◌+◌ (ap (λ x. cond x (2 ^ p) 0) (h p (omega arith))) (bits_same f g (suc p) w (λ q l. h q (omega arith)))

-- a bit put in a number that does not have it
bit_added : (y p : ℕ) (on : Bool) → has y p ≡ false → cond on (2 ^ p) 0 + y ≡ with_bit y p on
unfolding with_bit flip
bit_added y p true e = rw e (omega arith)
bit_added y p false e = rw e (omega arith)

-- the bits that make a number: none below p, and then those of the test
bits_below : (f : ℕ → Bool) (p w q : ℕ) → q < p → has (bits_from f p w) q ≡ false
unfolding bits_from
bits_below f p zero q h = zero_has q
bits_below f p (suc w) q h =
    ap (λ x. has x q) (bit_added (bits_from f (suc p) w) p (f p) (bits_below f (suc p) w p (omega arith)))
    ∙ with_bit_other (bits_from f (suc p) w) p (f p) q (λ e. omega arith) ∙ bits_below f (suc p) w q (omega arith)

bits_first : (f : ℕ → Bool) (p w : ℕ) → bits_from f p (suc w) ≡ with_bit (bits_from f (suc p) w) p (f p)
unfolding bits_from
bits_first f p w = bit_added (bits_from f (suc p) w) p (f p) (bits_below f (suc p) w p (omega arith))

pub bits_at : (f : ℕ → Bool) (p w q : ℕ) → p ≤ q → q < p + w → has (bits_from f p w) q ≡ f q
bits_at f p zero q h l = absurd (omega arith)
bits_at f p (suc w) q h l =
    ap (λ x. has x q) (bits_first f p w)
    ∙ ⊎_elim here (λ ne. with_bit_other (bits_from f (suc p) w) p (f p) q ne ∙ bits_at f (suc p) w q (omega arith) (omega arith)) (same? q p)
  where
    here : q ≡ p → has (with_bit (bits_from f (suc p) w) p (f p)) q ≡ f q
    here e = rw e (with_bit_same (bits_from f (suc p) w) p (f p))

pub bits_small : (all : ℕ) (f : ℕ → Bool) (p w : ℕ) → p + w ≤ all → bits_from f p w < 2 ^ all
bits_small all f p zero h = unfold bits_from in pow_pos all
bits_small all f p (suc w) h = rw (bits_first f p w) (with_bit_inside all (bits_from f (suc p) w) p (f p) (bits_small all f (suc p) w (omega arith)) (omega arith))

-- the bits of a number make it
number_bits : (w x : ℕ) → x < 2 ^ w → bits_from (has x) 0 w ≡ x
number_bits w x h = same_bits w (bits_from (has x) 0 w) x (bits_small w (has x) 0 w (omega arith)) h (λ p l. go p (has x p) refl (bits_at (has x) 0 w p (omega arith) (omega arith)))
  where
    go : (p : ℕ) (y : Bool) → has x p ≡ y → has (bits_from (has x) 0 w) p ≡ has x p → bit_at (bits_from (has x) 0 w) p ≡ bit_at x p
    go p true e f = has_bit _ p (f ∙ e) ∙ sym (has_bit x p e)
    go p false e f = has_no_bit _ p (f ∙ e) ∙ sym (has_no_bit x p e)

module _ (b : List ℕ) (small : (i : ℕ) → get_or b i 0 < 256) where
  -- the mask of a node in a part of masks
  pub number_small : (w : ℕ) → Width w → (i : ℕ) → mask_number w b i < 2 ^ (8 * mask_size w)
  unfolding mask_number
  number_small w (inl e) i = rw e (small i)
  number_small w (inr e) i = rw e (omega (arith, small i, small (i + 1), small (i + 2)))

  mask_of_lem : (w : ℕ) → Width w → (part n : ℕ) → n < 256 → mask_of w (mask_at w part b) n ≡ mask_number w b (mask_place w part n)
  unfolding mask_of
  mask_of_lem w width part n h =
      bits_same (mask_at w part b n) (has (mask_number w b (mask_place w part n))) 0 (8 * mask_size w) (λ p l. mask_has w b n p h (omega arith) part)
      ∙ number_bits (8 * mask_size w) _ (number_small w width (mask_place w part n))

  -- its bytes, and what lies behind them
  number_drop : (w : ℕ) → Width w → (i j : ℕ) → j ≡ i + mask_size w → i + mask_size w ≤ length b → number_bytes w (mask_number w b i) ++ drop j b ≡ drop i b
  unfolding number_bytes mask_number
  number_drop w (inl e) i j f h = let g : j ≡ suc i = omega (arith, e) in rw (e, g) (sym (drop-cons b i 0 (omega (arith, e))))
  number_drop w (inr e) i j f h =
      let g : j ≡ suc (suc (suc i)) = omega (arith, e) in
      let s₁ = small i in
      let s₂ = small (i + 1) in
      let s₃ = small (i + 2) in
      let x : ℕ = get_or b i 0 + 256 * get_or b (i + 1) 0 + 65536 * get_or b (i + 2) 0 in
      let at₂ : i + 1 ≡ suc i = omega arith in
      let at₃ : i + 2 ≡ suc (suc i) = omega arith in
      let low : x % 256 ≡ get_or b i 0 = omega arith in
      let middle : x / 256 % 256 ≡ get_or b (suc i) 0 = omega (arith, ap (λ k. get_or b k 0) at₂) in
      let high : x / 65536 ≡ get_or b (suc (suc i)) 0 = omega (arith, ap (λ k. get_or b k 0) at₃) in
      rw e (ap₂ ◌∷◌ low (ap₂ ◌∷◌ middle (ap₂ ◌∷◌ high (ap (λ k. drop k b) g)))
      ∙ sym (drop-cons b i 0 (omega (arith, e)) ∙ ap (get_or b i 0 ∷◌) (drop-cons b (suc i) 0 (omega (arith, e)) ∙ ap (get_or b (suc i) 0 ∷◌) (drop-cons b (suc (suc i)) 0 (omega (arith, e))))))

  -- k such masks from node n on, and what lies behind them
  masks : (w : ℕ) → Width w → (part n k : ℕ) → n + k ≤ 256 → part + 256 * mask_size w ≤ length b
      → mask_bytes w (mask_at w part b) n k ++ drop (part + mask_size w * (n + k)) b ≡ drop (part + mask_size w * n) b
  unfolding mask_bytes
  masks w width part n zero h l = let same : n + 0 ≡ n = omega arith in ap (λ m. drop (part + mask_size w * m) b) same
  masks w width part n (suc k) h l =
      let next : n + suc k ≡ suc n + k = omega arith in
      append_assoc (number_bytes w (mask_of w (mask_at w part b) n)) (mask_bytes w (mask_at w part b) (suc n) k) (drop (part + mask_size w * (n + suc k)) b)
      ∙ ap₂ (λ x ys. number_bytes w x ++ ys) (mask_of_lem w width part n (omega arith))
      (ap (λ m. mask_bytes w (mask_at w part b) (suc n) k ++ drop (part + mask_size w * m) b) next ∙ masks w width part (suc n) k (omega arith) l)
      ∙ number_drop w width (part + mask_size w * n) (part + mask_size w * suc n) (on width) (room width)
    where
      on : Width w → part + mask_size w * suc n ≡ part + mask_size w * n + mask_size w
      on (inl e) = rw e (omega arith)
      on (inr e) = rw e (omega arith)

      room : Width w → part + mask_size w * n + mask_size w ≤ length b
      room (inl e) = omega (arith, by_width (λ w. mask_size w * n + mask_size w ≤ 256 * mask_size w) w width (omega arith) (omega arith))
      room (inr e) = omega (arith, by_width (λ w. mask_size w * n + mask_size w ≤ 256 * mask_size w) w width (omega arith) (omega arith))

  -- an entry's two bytes
  entry_word : (w : ℕ) → Width w → (part i : ℕ) → i < entry_count w → entry_at w part b (i / w) (i % w) ≡ get_or b (part + 2 * i) 0 + 256 * get_or b (suc (part + 2 * i)) 0
  unfolding entry_at
  entry_word w width part i h =
      by_width (λ w. i < entry_count w → cond (in_row w i) (word w i) 0 ≡ get_or b (part + 2 * i) 0 + 256 * get_or b (suc (part + 2 * i)) 0) w width
      (λ h. at 8 (within {w = 8} (i / 8) (i % 8) (omega arith) (omega arith)) (omega arith)) (λ h. at 18 (within {w = 18} (i / 18) (i % 18) (omega arith) (omega arith)) (omega arith)) h
    where
      in_row : ℕ → ℕ → Bool
      in_row w i = in_table w (i / w) (i % w)

      word : ℕ → ℕ → ℕ
      word w i = word_at b (entry_place w part (i / w) (i % w))

      at : (w : ℕ) → in_table w (i / w) (i % w) ≡ true → entry_place w part (i / w) (i % w) ≡ part + 2 * i
          → cond (in_table w (i / w) (i % w)) (word_at b (entry_place w part (i / w) (i % w))) 0 ≡ get_or b (part + 2 * i) 0 + 256 * get_or b (suc (part + 2 * i)) 0
      at w e place = let after : part + 2 * i + 1 ≡ suc (part + 2 * i) = omega arith in rw (e, place, after) refl

  -- k entries of a part from entry i on, and what lies behind them
  entries : (w : ℕ) → Width w → (part i k : ℕ) → i + k ≤ entry_count w → part + 2 * entry_count w ≤ length b → entry_bytes w (entry_at w part b) i k ++ drop (part + 2 * (i + k)) b ≡ drop (part + 2 * i) b
  unfolding entry_bytes
  entries w width part i zero h l = let same : part + 2 * (i + 0) ≡ part + 2 * i = omega arith in ap (λ j. drop j b) same
  entries w width part i (suc k) h l =
      let next : part + 2 * (i + suc k) ≡ part + 2 * (suc i + k) = omega arith in
      let on : part + 2 * suc i ≡ suc (suc (part + 2 * i)) = omega arith in
      let value = entry_word w width part i (omega arith) in
      let small₁ = small (part + 2 * i) in
      let small₂ = small (suc (part + 2 * i)) in
      let low : entry_at w part b (i / w) (i % w) % 256 ≡ get_or b (part + 2 * i) 0 = rw value (omega arith) in
      let high : entry_at w part b (i / w) (i % w) / 256 ≡ get_or b (suc (part + 2 * i)) 0 = rw value (omega arith) in
      ap₂ ◌∷◌ low (ap₂ ◌∷◌ high
      (ap (λ j. entry_bytes w (entry_at w part b) (suc i) k ++ drop j b) next ∙ entries w width part (suc i) k (omega arith) l ∙ ap (λ j. drop j b) on))
      ∙ sym (drop-cons b (part + 2 * i) 0 (omega arith) ∙ ap (get_or b (part + 2 * i) 0 ∷◌) (drop-cons b (suc (part + 2 * i)) 0 (omega arith)))

  -- the byte of the fold mask, where there is one
  fold_drop : (q : ℕ) → Width q → length b ≡ length_of q → fold_bytes q (fold_at b) ++ drop (enable_part q) b ≡ drop 1 b
  unfolding fold_bytes
  fold_drop q (inl e) l = rw e refl
  fold_drop q (inr e) l = rw (e, fold_wide b (l ∙ ap length_of e)) (sym (drop-cons b 1 0 (omega (arith, l, e))))

-- What they show determines the bytes of a table.
pub encode_view_over : (q : ℕ) → Width q → (b : List ℕ) → length b ≡ length_of q → ((i : ℕ) → get_or b i 0 < 256) → encode_over q (view b) ≡ b
unfolding encode_over view dimension_at
encode_view_over q width b l small =
    rw (of_links.enabled_is b l, of_links.owner_is b l, of_channels.owner_is b l, of_channels.enabled_is b l)
    (ap (get_or b 0 0 ∷◌)
    (ap (front₃ ++◌) (sym (append-nil arms) ∙ ap (arms ++◌) (sym (drop_of_length-le b {i = arm_part q + mask_size 8 * (0 + 256)} (omega (arith, l)))) ∙ masks b small 8 (inl refl) (arm_part q) 0 256 (lit≤ tt) (omega (arith, l)) ∙ place (omega arith))
    ∙ append_assoc front₂ receives (drop (arm_part q) b) ∙ ap (front₂ ++◌) (ap (receives ++◌) (place (omega arith)) ∙ entries b small 8 (inl refl) (receive_part q) 0 (entry_count 8) (lit≤ tt) (omega (arith, l)) ∙ place (omega arith))
    ∙ append_assoc front₁ links (drop (receive_part q) b) ∙ ap (front₁ ++◌) (ap (links ++◌) (place (omega arith)) ∙ entries b small q width (link_part q) 0 (entry_count q) (omega arith) (omega (arith, l)) ∙ place (omega arith))
    ∙ append_assoc front₀ enables (drop (link_part q) b) ∙ ap (front₀ ++◌) (ap (enables ++◌) (place (omega arith)) ∙ masks b small q width (enable_part q) 0 256 (lit≤ tt) (omega (arith, l)) ∙ place (omega arith))
    ∙ fold_drop b small q width l)
    ∙ sym (drop-cons b 0 0 (omega (arith, l))))
  where
    of_links : ResourceLaws (length_of q) q (enable_part q) (link_part q) enabled_at owner_at put_enabled put_owner
    of_links = links_laws (layout_laws q width)

    of_channels : ResourceLaws (length_of q) 8 (arm_part q) (receive_part q) armed_at receiver_at put_armed put_receiver
    of_channels = channels_laws (layout_laws q width)

    place : {i j : ℕ} → i ≡ j → drop i b ≡ drop j b
    place e = ap (λ i. drop i b) e

    front₀ : List ℕ
    front₀ = fold_bytes q (fold_at b)

    enables : List ℕ
    enables = mask_bytes q (mask_at q (enable_part q) b) 0 256

    front₁ : List ℕ
    front₁ = front₀ ++ enables

    links : List ℕ
    links = entry_bytes q (entry_at q (link_part q) b) 0 (entry_count q)

    front₂ : List ℕ
    front₂ = front₁ ++ links

    receives : List ℕ
    receives = entry_bytes 8 (entry_at 8 (receive_part q) b) 0 (entry_count 8)

    front₃ : List ℕ
    front₃ = front₂ ++ receives

    arms : List ℕ
    arms = mask_bytes 8 (mask_at 8 (arm_part q) b) 0 256

-- Tables 1: of a narrow table
pub encode_view : (b : List ℕ) → length b ≡ table_length → ((i : ℕ) → get_or b i 0 < 256) → encode (view b) ≡ b
encode_view b l small = encode_view_over port_count (inl refl) b l small
