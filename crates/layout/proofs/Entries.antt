-- One entry, word or bit, as the code reads and writes it: of a row of any width.
-- Assumes nothing.
use mathlib.Core.Path.{◌≡◌, refl, ap, ap₂, sym, ◌∙◌, subst}
use mathlib.Core.Logic.{◌⊎◌, inl, inr, ⊎_elim, ◌≢◌}
use mathlib.Core.Bool.{Bool, true, false, cond, not, beq}
use mathlib.Core.List.{List}
use Prim.Native.Nat.{ℕ, ◌+◌, ◌-◌, ◌*◌, ◌/◌, ◌%◌, ◌^◌, ◌≤◌, ◌<◌}
use native.Mathlib.Omega.{arith}
use native.Mathlib.Nat.{add_assoc}
use lib.ListN.{length, drop, get_or, set, length-set}
use Rattle.std.proofs.lemmas.List.{get_or-take, get_or-drop}
use lib.Seq.{set-get_or, get_or-set_same, get_or-set_other}
use lib.Bits.{bit_xor}
use borrow.Author.Tests.{lt-ltb, not-true, not-false}
use Rattle.common.proofs.Tests.{both_below}
use Rattle.cube.specs.Bits.{has, with_bit}
use Rattle.cube.proofs.Bits.{flip_xor, with_bit_inside}
use Rattle.cube.proofs.Ports.{port_bit}
use Rattle.layout.specs.Layout.{in_table, mask_size, mask_place, mask_number, entry_place, word_at, mask_at, entry_at}
use Rattle.layout.specs.LayoutContracts.{put_word, put_number, put_mask, node_rows, RunOr}
use Rattle.layout.specs.Resources.{Width}
use Rattle.layout.proofs.Runs.{run_zero}

pub within : {w : ℕ} (n p : ℕ) → n < 256 → p < w → in_table w n p ≡ true
within {w} n p h l = rw (lt-ltb n 256 h, lt-ltb p w l)

pub inside : {w : ℕ} (n k : ℕ) → in_table w n k ≡ true → (n < 256) × (k < w)
inside n k e = both_below e

-- a law about every width is shown at 8 and at 18
pub by_width : (P : ℕ → Type 0) (w : ℕ) → Width w → P 8 → P 18 → P w
by_width P w (inl e) x y = subst P (sym e) x
by_width P w (inr e) x y = subst P (sym e) y

pub width_masks : {w : ℕ} → Width w → w ≤ 8 * mask_size w
width_masks (inl e) = omega arith
width_masks (inr e) = omega arith

-- so many rows, or masks, and more behind them, are within their part
pub rows_room : {w : ℕ} (n m : ℕ) → Width w → n + m ≤ 256 → 2 * (w * n) + 2 * (w * m) ≤ 512 * w
rows_room n m (inl e) h = rw e (omega arith)
rows_room n m (inr e) h = rw e (omega arith)

pub row_room : {w : ℕ} (n : ℕ) → Width w → n < 256 → 2 * (w * n) + 2 * w ≤ 512 * w
row_room n (inl e) h = rw e (omega arith)
row_room n (inr e) h = rw e (omega arith)

pub mask_room : {w : ℕ} (n : ℕ) → Width w → n < 256 → mask_size w * n + mask_size w ≤ 256 * mask_size w
mask_room n (inl e) h = rw e (omega arith)
mask_room n (inr e) h = rw e (omega arith)

module _ (w : ℕ) (b : List ℕ) (n p : ℕ) (h : n < 256) where
  -- reading: i is the place that the code found
  pub entry_is : p < w → (part x i : ℕ) → i ≡ entry_place w part n p → x ≡ word_at b i → x ≡ entry_at w part b n p
  unfolding entry_at
  entry_is l part x i e q = rw (within {w = w} n p h l) (q ∙ ap (word_at b) e)

  module _ (l : p < 8 * mask_size w) where
    pub mask_has : (part : ℕ) → mask_at w part b n p ≡ has (mask_number w b (mask_place w part n)) p
    unfolding mask_at
    mask_has part = rw (within {w = 8 * mask_size w} n p h l)

    pub mask_is : (part i : ℕ) {on : Bool} → i ≡ mask_place w part n → on ≡ has (mask_number w b i) p → on ≡ mask_at w part b n p
    mask_is part i e q = q ∙ ap (λ j. has (mask_number w b j) p) e ∙ sym (mask_has part)

-- a word written: the word there, and every byte and word apart from it
module _ (b : List ℕ) (i c : ℕ) where
  pub byte_apart : (j : ℕ) → j ≢ i → j ≢ i + 1 → get_or (put_word b i c) j 0 ≡ get_or b j 0
  byte_apart j h k = get_or-set_other (set b i (c % 256)) (i + 1) j (c / 256) 0 k ∙ get_or-set_other b i j (c % 256) 0 h

  pub word_same : i + 1 < length b → c < 65536 → word_at (put_word b i c) i ≡ c
  word_same h l =
      let low : get_or (put_word b i c) i 0 ≡ c % 256 = get_or-set_other (set b i (c % 256)) (i + 1) i (c / 256) 0 (λ e. omega arith) ∙ get_or-set_same b i (c % 256) 0 (omega arith) in
      let high : get_or (put_word b i c) (i + 1) 0 ≡ c / 256 = get_or-set_same (set b i (c % 256)) (i + 1) (c / 256) 0 (rw (length-set b i (c % 256)) h) in
      rw (low, high) (omega arith)

  pub word_apart : (j : ℕ) → (j + 1 < i) ⊎ (i + 1 < j) → word_at (put_word b i c) j ≡ word_at b j
  word_apart j h =
      let low = byte_apart j (λ e. off h e) (λ e. off' h e) in
      let high = byte_apart (j + 1) (λ e. off'' h e) (λ e. off''' h e) in
      rw (low, high)
    where
      off : (j + 1 < i) ⊎ (i + 1 < j) → j ≢ i
      off g e = ⊎_elim (λ x. omega arith) (λ x. omega arith) g

      off' : (j + 1 < i) ⊎ (i + 1 < j) → j ≢ i + 1
      off' g e = ⊎_elim (λ x. omega arith) (λ x. omega arith) g

      off'' : (j + 1 < i) ⊎ (i + 1 < j) → j + 1 ≢ i
      off'' g e = ⊎_elim (λ x. omega arith) (λ x. omega arith) g

      off''' : (j + 1 < i) ⊎ (i + 1 < j) → j + 1 ≢ i + 1
      off''' g e = ⊎_elim (λ x. omega arith) (λ x. omega arith) g

-- two entries of one part lie at one place only if they are one
pub place_one : {w : ℕ} (part m q n k : ℕ) → Width w → q < w → k < w → entry_place w part m q ≡ entry_place w part n k → (m ≡ n) × (q ≡ k)
place_one {w} part m q n k (inl g) h l e = at_8 (subst (q <◌) g h) (subst (k <◌) g l) (subst (λ w. entry_place w part m q ≡ entry_place w part n k) g e)
  where
    at_8 : q < 8 → k < 8 → entry_place 8 part m q ≡ entry_place 8 part n k → (m ≡ n) × (q ≡ k)
    at_8 h l e =
        let row : (8 * m + q) / 8 ≡ m = omega arith in
        let row' : (8 * n + k) / 8 ≡ n = omega arith in
        let same : 8 * m + q ≡ 8 * n + k = omega arith in
        let node : m ≡ n = sym row ∙ ap (◌/ 8) same ∙ row' in
        (node, omega arith)
place_one {w} part m q n k (inr g) h l e = at_18 (subst (q <◌) g h) (subst (k <◌) g l) (subst (λ w. entry_place w part m q ≡ entry_place w part n k) g e)
  where
    at_18 : q < 18 → k < 18 → entry_place 18 part m q ≡ entry_place 18 part n k → (m ≡ n) × (q ≡ k)
    at_18 h l e =
        let row : (18 * m + q) / 18 ≡ m = omega arith in
        let row' : (18 * n + k) / 18 ≡ n = omega arith in
        let same : 18 * m + q ≡ 18 * n + k = omega arith in
        let node : m ≡ n = sym row ∙ ap (◌/ 18) same ∙ row' in
        (node, omega arith)

-- writing a bit, found to be x: it is changed where it is not as wanted, and the byte is kept where it is
module _ (b : List ℕ) (i k : ℕ) (on : Bool) {x : Bool} (e : x ≡ has (get_or b i 0) k) where
  pub bit_kept : not (beq x on) ≡ false → b ≡ set b i (with_bit (get_or b i 0) k on)
  unfolding with_bit
  bit_kept h = rw (ap (λ y. beq y on) (sym e) ∙ not-false _ h) (sym (set-get_or b i 0))

  pub bit_changed : k < 8 → not (beq x on) ≡ true → set b i (bit_xor (get_or b i 0) (1 * 2 ^ k % 256)) ≡ set b i (with_bit (get_or b i 0) k on)
  unfolding with_bit
  bit_changed l h = rw (port_bit 8 k l, flip_xor (get_or b i 0) k, ap (λ z. beq z on) (sym e) ∙ not-true _ h)

-- the same of a number
module _ (y k : ℕ) (on : Bool) {x : Bool} (e : x ≡ has y k) where
  pub mask_kept : not (beq x on) ≡ false → y ≡ with_bit y k on
  unfolding with_bit
  mask_kept h = rw (ap (λ y. beq y on) (sym e) ∙ not-false _ h) refl

  pub mask_changed : k < 32 → not (beq x on) ≡ true → bit_xor y (1 * 2 ^ k % 4294967296) ≡ with_bit y k on
  unfolding with_bit
  mask_changed l h = rw (port_bit 32 k l, flip_xor y k, ap (λ z. beq z on) (sym e) ∙ not-true _ h) refl

-- a bit of a mask as the code finds it, and the bytes as it writes them: i is the place, x the mask, j the bit
module _ (w : ℕ) (b : List ℕ) (n p part i x j : ℕ) (e : i ≡ mask_place w part n) (f : x ≡ mask_number w b i) (g : j ≡ p) where
  pub mask_read : Width w → n < 256 → p < w → {on : Bool} → on ≡ has x j → on ≡ mask_at w part b n p
  mask_read width h l q = mask_is w b n p h (omega (arith, width_masks width)) part i e (q ∙ ap₂ has f g)

  pub mask_written : (y : ℕ) (on : Bool) → y ≡ with_bit x j on → put_number w b i y ≡ put_mask w part b n p on
  unfolding put_mask
  mask_written y on h = rw (h, g, f, e) refl

  -- the mask with the bit set or cleared has no more bits than a mask
  pub mask_fits : Width w → p < w → x < 2 ^ (8 * mask_size w) → (y : ℕ) (on : Bool) → y ≡ with_bit x j on → y < 2 ^ (8 * mask_size w)
  mask_fits width l small y on h = rw (h, g) (with_bit_inside (8 * mask_size w) x p on small (omega (arith, width_masks width)))

-- the rows of some nodes: their bytes and words
module _ (w part : ℕ) (b : List ℕ) (n nodes : ℕ) where
  rows_byte : (i : ℕ) → i < 2 * (w * nodes) → get_or (node_rows w part b n nodes) i 0 ≡ get_or b (entry_place w part n 0 + i) 0
  rows_byte i h = get_or-take (2 * (w * nodes)) (drop (entry_place w part n 0) b) i 0 h ∙ get_or-drop (entry_place w part n 0) b i 0

  pub rows_word : (i : ℕ) → i < w * nodes → word_at (node_rows w part b n nodes) (2 * i) ≡ word_at b (entry_place w part n 0 + 2 * i)
  rows_word i h =
      let low = rows_byte (2 * i) (twice (w * nodes) h) in
      let after : entry_place w part n 0 + (2 * i + 1) ≡ entry_place w part n 0 + 2 * i + 1 = sym (add_assoc _ (2 * i) 1) in
      let high = rows_byte (2 * i + 1) (twice_on (w * nodes) h) ∙ ap (λ j. get_or b j 0) after in
      rw (low, high)
    where
      twice : (m : ℕ) → i < m → 2 * i < 2 * m
      twice m h = omega arith

      twice_on : (m : ℕ) → i < m → 2 * i + 1 < 2 * m
      twice_on m h = omega arith

pub row_entry : {w : ℕ} (b : List ℕ) (n part k : ℕ) {row : List ℕ} → n < 256 → k < w → row ≡ node_rows w part b n 1 → word_at row (2 * k) ≡ entry_at w part b n k
row_entry {w} b n part k {row} h l e =
    entry_is w b n k h l part (word_at row (2 * k)) (entry_place w part n 0 + 2 * k) (on (2 * (w * n))) (ap (λ ys. word_at ys (2 * k)) e ∙ rows_word w part b n 1 k (omega arith))
  where
    on : (x : ℕ) → part + x + 0 + 2 * k ≡ part + x + 2 * k
    on x = omega arith

-- rows whose bytes are zero hold nothing
pub rows_zero : {w : ℕ} (b : List ℕ) (part n nodes : ℕ) {all : ℕ} → Width w → part + 512 * w ≤ length b → n + nodes ≤ 256 → RunOr (node_rows w part b n nodes) all → all ≡ 0
    → (m k : ℕ) → n ≤ m → m < n + nodes → k < w → entry_at w part b m k ≡ 0
unfolding entry_at
rows_zero {w} b part n nodes {all} width room last run none m k g l h =
    by_width (λ w. part + 512 * w ≤ length b → RunOr (node_rows w part b n nodes) all → k < w → entry_at w part b m k ≡ 0) w width
    (λ room run h. shown 8 room run h (omega arith) (omega arith) (omega arith)) (λ room run h. shown 18 room run h (omega arith) (omega arith) (omega arith)) room run h
  where
    shown : (w : ℕ) → part + 512 * w ≤ length b → RunOr (node_rows w part b n nodes) all → k < w → entry_place w part n 0 + 2 * (w * nodes) ≤ part + 512 * w
        → (entry_place w part n 0 + (2 * (w * (m - n)) + 2 * k) ≡ entry_place w part m k) → 2 * (w * (m - n)) + 2 * k + 1 < 2 * (w * nodes) → entry_at w part b m k ≡ 0
    shown w room run h fits place few = go (in_table w m k)
      where
        zero_at : (i j : ℕ) → i < 2 * (w * nodes) → entry_place w part n 0 + i ≡ j → get_or b j 0 ≡ 0
        zero_at i j l e = ap (λ x. get_or b x 0) (sym e) ∙ run_zero b (entry_place w part n 0) (2 * (w * nodes)) run (omega arith) none i l

        low : get_or b (entry_place w part m k) 0 ≡ 0
        low = zero_at (2 * (w * (m - n)) + 2 * k) (entry_place w part m k) (omega arith) place

        high : get_or b (entry_place w part m k + 1) 0 ≡ 0
        high = zero_at (2 * (w * (m - n)) + 2 * k + 1) (entry_place w part m k + 1) few (omega arith)

        go : (x : Bool) → cond x (word_at b (entry_place w part m k)) 0 ≡ 0
        go true = rw (low, high)
        go false = refl
