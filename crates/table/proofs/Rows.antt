-- The row of a node: what its entries, found as a vector or counted, say of links and receive channels, and how many links nobody holds.
-- Assumes nothing.
use mathlib.Core.Path.{◌≡◌, refl, ap, ap₂, sym, ◌∙◌}
use mathlib.Core.Logic.{◌≢◌}
use mathlib.Core.Bool.{Bool, true, ◌&&◌, and_comm}
use mathlib.Core.List.{List}
use Prim.Native.Nat.{ℕ, ◌+◌, ◌*◌, ◌/◌, ◌%◌, ◌≤◌, ◌<◌}
use native.Mathlib.Omega.{arith}
use lib.Dec.{eqb}
use lib.ListN.{length, get_or}
use lib.Bits.{bit_and}
use lib.Count.{ones}
use borrow.Author.Tests.{eqb-true, eq-eqb, ne_eqb}
use Rattle.common.specs.Decides.{Decides}
use Rattle.common.specs.Lists.{keep, from, lowest}
use Rattle.common.proofs.Lists.{keep_same}
use Rattle.common.proofs.Every.{at}
use Rattle.common.proofs.From.{from_below, count_yes, count_no}
use Rattle.common.proofs.Lowest.{lowest_same}
use Rattle.cube.specs.Bits.{has}
use Rattle.cube.specs.Cube.{channels}
use Rattle.cube.proofs.Bits.{has_and}
use Rattle.layout.specs.Layout.{ports_in, entry_place, mask_size, mask_place, mask_number, word_at, entry_at, mask_at, owner_at, receiver_at, armed_at}
use Rattle.layout.specs.LayoutContracts.{node_rows, RowVector, row_count}
use Rattle.layout.specs.Resources.{Width}
use Rattle.layout.proofs.Entries.{by_width, width_masks, entry_is, mask_has, rows_word, row_entry}
use Rattle.table.specs.View.{View, view, available}
use Rattle.table.specs.TableContracts.{HeldIn, links_held_of, place_count, lowest_channel}

-- the row of a node, in the part of links or in that of receive channels
module _ (w part : ℕ) (b : List ℕ) (n c : ℕ) (row : List ℕ) (h : n < 256) (e : row ≡ node_rows w part b n 1) where
  pub entry_test : (k : ℕ) → k < w → eqb (word_at row (2 * k)) c ≡ eqb (entry_at w part b n k) c
  entry_test k l = ap (λ x. eqb x c) (row_entry b n part k h l e)

  pub links_vector : (vector : ℕ) → owner_at b ≡ entry_at w part b → RowVector w row c vector → HeldIn w b c n vector
  links_vector vector o r = record { small = r.small; held = λ p l. r.bits p l ∙ entry_test p l ∙ ap (λ (f : ℕ → ℕ → ℕ). eqb (f n p) c) (sym o) }

  pub links_count : owner_at b ≡ entry_at w part b → row_count w row c ≡ links_held_of w (view b) c n
  unfolding row_count links_held_of view
  links_count o = ap length (keep_same _ _ (from 0 w) (λ p m. entry_test p (from_below w p m) ∙ ap (λ (f : ℕ → ℕ → ℕ). eqb (f n p) c) (sym o)))

module _ (part : ℕ) (b : List ℕ) (n c : ℕ) (row : List ℕ) (h : n < 256) (e : row ≡ node_rows channels part b n 1) (o : receiver_at b ≡ entry_at channels part b) where
  channel_test : (k : ℕ) → k < channels → eqb (word_at row (2 * k)) c ≡ eqb (receiver_at b n k) c
  channel_test k l = entry_test channels part b n c row h e k l ∙ ap (λ (f : ℕ → ℕ → ℕ). eqb (f n k) c) (sym o)

  pub channels_lowest : (vector : ℕ) → RowVector channels row c vector → lowest (has vector) channels 0 ≡ lowest (λ k. eqb (receiver_at b n k) c) channels 0
  channels_lowest vector r = lowest_same (has vector) _ 8 0 (λ k g l. r.bits k l ∙ channel_test k l)

  -- the channels that nobody holds, and of them those that a mask has: these are available
  module _ (unheld armed arms : ℕ) (z : c ≡ 0) (r : RowVector channels row c unheld) (a : armed ≡ get_or b (arms + n) 0) (m : armed_at b ≡ mask_at channels arms b) where
    pub channel_available : (k : ℕ) → k < channels → has (bit_and unheld armed) k ≡ available (view b) n k
    unfolding available view mask_number
    channel_available k l =
        has_and unheld armed k ∙ and_comm (has unheld k) (has armed k)
        ∙ ap₂ ◌&&◌ (ap (λ x. has x k) a ∙ same ∙ sym (mask_has channels b n k h l arms) ∙ ap (λ (f : ℕ → ℕ → Bool). f n k) (sym m))
        (r.bits k l ∙ channel_test k l ∙ ap (eqb (receiver_at b n k)) z)
      where
        same : has (get_or b (arms + n) 0) k ≡ has (get_or b (mask_place channels arms n) 0) k
        same = let e : arms + n ≡ mask_place channels arms n = omega arith in ap (λ i. has (get_or b i 0) k) e

-- a vector of the available channels of a node: the lowest of its bits is the lowest of them, and its bits are as many
module _ (v : View) (n x : ℕ) (bits : (k : ℕ) → k < channels → has x k ≡ available v n k) where
  pub lowest_bit : lowest (has x) channels 0 ≡ lowest_channel v n
  unfolding lowest_channel
  lowest_bit = lowest_same (has x) _ 8 0 (λ k g l. bits k l)

  pub available_count : length (keep (has x) (from 0 channels)) ≡ length (keep (available v n) (from 0 channels))
  available_count = ap length (keep_same _ _ (from 0 8) (λ k m. bits k (from_below 8 k m)))

-- the bits of a byte counted
pub ones_kept : (x : ℕ) → x < 256 → ones x ≡ length (keep (has x) (from 0 8))
unfolding ones has keep from
ones_kept x small = eqb-true (ones x) _ (at 256 (λ x. eqb (ones x) (length (keep (has x) (from 0 8)))) refl x small)

-- a mask that has every entry of a row that is not zero: of a node's entries in one part and its mask in another
pub covers_node : (w : ℕ) → Width w → (b : List ℕ) (n part masks j x : ℕ) {row : List ℕ} {answer : _} → n < 256 → row ≡ node_rows w part b n 1 → j ≡ mask_place w masks n → x ≡ mask_number w b j
    → Decides ((k : ℕ) → k < w → word_at row (2 * k) ≢ 0 → has x k ≡ true) answer
    → Decides ((k : ℕ) → k < w → entry_at w part b n k ≢ 0 → mask_at w masks b n k ≡ true) answer
covers_node w width b n part masks j x h e f g d =
    record {
      holds = λ t k l z. mask_has w b n k h (inside k l) masks ∙ sym (mask k) ∙ d.holds t k l (λ y. z (sym (row_entry b n part k h l e) ∙ y));
      fails = λ t all. d.fails t (λ k l z. mask k ∙ sym (mask_has w b n k h (inside k l) masks) ∙ all k l (λ y. z (row_entry b n part k h l e ∙ y)));
    }
  where
    inside : (k : ℕ) → k < w → k < 8 * mask_size w
    inside k l = omega (arith, width_masks width)

    mask : (k : ℕ) → has x k ≡ has (mask_number w b (mask_place w masks n)) k
    mask k = ap (λ y. has y k) (g ∙ ap (mask_number w b) f)

-- entry i of some rows is that of a node and a port
pub row_link : (q : ℕ) → Width q → (part : ℕ) (b : List ℕ) (n nodes i : ℕ) → n + nodes ≤ 256 → i < q * nodes → word_at (node_rows q part b n nodes) (2 * i) ≡ entry_at q part b ((q * n + i) / q) ((q * n + i) % q)
row_link q width part b n nodes i last h =
    by_width (λ q. i < q * nodes → word_at (node_rows q part b n nodes) (2 * i) ≡ entry_at q part b ((q * n + i) / q) ((q * n + i) % q)) q width
    (λ h. entry_is 8 b ((8 * n + i) / 8) ((8 * n + i) % 8) (omega arith) (omega arith) part _ (entry_place 8 part n 0 + 2 * i) (omega arith) (rows_word 8 part b n nodes i h))
    (λ h. entry_is 18 b ((18 * n + i) / 18) ((18 * n + i) % 18) (omega arith) (omega arith) part _ (entry_place 18 part n 0 + 2 * i) (omega arith) (rows_word 18 part b n nodes i h))
    h

-- one more link, or receive channel, is looked at
module _ (q part : ℕ) (width : Width q) (b : List ℕ) (owner : ℕ → ℕ → ℕ) (o : owner ≡ entry_at q part b) (n nodes i x count : ℕ) (rows : List ℕ) (last : n + nodes ≤ 256) (h : i < q * nodes)
    (r : rows ≡ node_rows q part b n nodes) (e : x ≡ word_at rows (2 * i)) (c : count ≡ place_count q (λ m k. eqb (owner m k) 0) (q * n + i)) where
  entry : x ≡ owner ((q * n + i) / q) ((q * n + i) % q)
  entry = e ∙ ap (λ ys. word_at ys (2 * i)) r ∙ row_link q width part b n nodes i last h ∙ ap (λ (f : ℕ → ℕ → ℕ). f ((q * n + i) / q) ((q * n + i) % q)) (sym o)

  pub unheld_yes : x ≡ 0 → count + 1 ≡ place_count q (λ m k. eqb (owner m k) 0) (q * n + i + 1)
  unfolding place_count
  unheld_yes z = count_yes (λ l. eqb (owner (l / q) (l % q)) 0) (q * n + i) count (eq-eqb _ 0 (sym entry ∙ z)) c

  pub unheld_no : x ≢ 0 → count ≡ place_count q (λ m k. eqb (owner m k) 0) (q * n + i + 1)
  unfolding place_count
  unheld_no z = count_no (λ l. eqb (owner (l / q) (l % q)) 0) (q * n + i) count (ne_eqb _ 0 (λ y. z (entry ∙ y))) c
