-- What a table shows after one value is written: the new value at its place, and everything else as it was.
-- Assumes nothing.
use mathlib.Core.Path.{◌≡◌, refl, ap, ap₂, sym, ◌∙◌}
use mathlib.Core.Logic.{◌⊎◌, inl, inr, ⊎_elim, ◌≢◌}
use mathlib.Core.Bool.{Bool, true, false, cond, ◌&&◌}
use mathlib.Core.List.{List}
use Prim.Native.Nat.{ℕ, ◌+◌, ◌*◌, ◌/◌, ◌%◌, ◌≤◌, ◌<◌}
use native.Mathlib.Omega.{arith}
use lib.Dec.{eqb, ltb}
use lib.ListN.{length, get_or, set, length-set}
use lib.Seq.{get_or-set_same, get_or-set_other}
use borrow.Author.Tests.{ltb-true, ltb-false, eqb-true, eqb-false}
use Rattle.cube.specs.Cube.{channels}
use Rattle.cube.specs.Bits.{has, with_bit}
use Rattle.cube.proofs.Bits.{with_bit_same, with_bit_other}
use Rattle.layout.specs.Layout.{table_length, length_of, ports_in, in_table, dimension_at, fold_at, mask_size, mask_place, mask_number, mask_at, enabled_at, armed_at, entry_place, entry_at, owner_at, receiver_at, word_at}
use Rattle.layout.specs.LayoutContracts.{put_number}
use Rattle.layout.specs.Resources.{Width, width_in, LayoutLaws, ResourceLaws, narrow_laws, layout_laws, IsTable, links_laws, channels_laws}
use Rattle.layout.proofs.Folds.{fold_none}
use Rattle.layout.proofs.Entries.{by_width, width_masks, within, inside, byte_apart, word_same, word_apart, place_one}
use Rattle.entries.specs.EntryContracts.{put_mask, put_enabled, put_armed, put_entry, put_owner, put_receiver, InTable, Within}
use Rattle.table.specs.View.{view, set_at, set_owner, set_receiver, set_enabled, set_armed}

-- two lists of bytes show the same at a node and a port or channel where their words, or their masks, there agree
pub entry_same : (w : ℕ) (b b' : List ℕ) (part m q : ℕ) → (m < 256 → q < w → word_at b (entry_place w part m q) ≡ word_at b' (entry_place w part m q)) → entry_at w part b m q ≡ entry_at w part b' m q
unfolding entry_at
entry_same w b b' part m q h = go (in_table w m q) refl
  where
    go : (x : Bool) → in_table w m q ≡ x → cond x (word_at b (entry_place w part m q)) 0 ≡ cond x (word_at b' (entry_place w part m q)) 0
    go true e = let r = inside {w = w} m q e in h r.0 r.1
    go false e = refl

pub mask_same : (w : ℕ) (b b' : List ℕ) (part m q : ℕ) → (m < 256 → mask_number w b (mask_place w part m) ≡ mask_number w b' (mask_place w part m)) → mask_at w part b m q ≡ mask_at w part b' m q
unfolding mask_at
mask_same w b b' part m q h = go (in_table (8 * mask_size w) m q) refl
  where
    go : (x : Bool) → in_table (8 * mask_size w) m q ≡ x → x && has (mask_number w b (mask_place w part m)) q ≡ x && has (mask_number w b' (mask_place w part m)) q
    go true e = ap (λ y. has y q) (h (inside {w = 8 * mask_size w} m q e).0)
    go false e = refl

-- a mask is the same where its bytes are
pub number_same : (w : ℕ) → Width w → (b b' : List ℕ) (i : ℕ) → ((j : ℕ) → i ≤ j → j < i + mask_size w → get_or b j 0 ≡ get_or b' j 0) → mask_number w b i ≡ mask_number w b' i
unfolding mask_number
number_same w (inl e) b b' i h = rw e (h i (omega arith) (omega (arith, e)))
number_same w (inr e) b b' i h = rw e (rw (h i (omega arith) (omega (arith, e)), h (i + 1) (omega arith) (omega (arith, e)), h (i + 2) (omega arith) (omega (arith, e))) refl)

-- where an entry, and a mask, lie within their part, and two masks of one part
entry_inside : (w part n k : ℕ) → Width w → n < 256 → k < w → entry_place w part n k + 2 ≤ part + 512 * w
entry_inside w part n k width h l = by_width (λ w. k < w → entry_place w part n k + 2 ≤ part + 512 * w) w width (λ l. omega arith) (λ l. omega arith) l

pub mask_inside : (w part n : ℕ) → Width w → n < 256 → mask_place w part n + mask_size w ≤ part + 256 * mask_size w
mask_inside w part n width h = by_width (λ w. mask_place w part n + mask_size w ≤ part + 256 * mask_size w) w width (omega arith) (omega arith)

masks_apart : (w part m n : ℕ) → Width w → m ≢ n → (mask_place w part m + mask_size w ≤ mask_place w part n) ⊎ (mask_place w part n + mask_size w ≤ mask_place w part m)
masks_apart w part m n width d = go (ltb m n) refl
  where
    before : (m n : ℕ) → m < n → mask_place w part m + mask_size w ≤ mask_place w part n
    before m n l = by_width (λ w. mask_place w part m + mask_size w ≤ mask_place w part n) w width (omega arith) (omega arith)

    go : (x : Bool) → ltb m n ≡ x → (mask_place w part m + mask_size w ≤ mask_place w part n) ⊎ (mask_place w part n + mask_size w ≤ mask_place w part m)
    go true e = inl (before m n (ltb-true m n e))
    go false e = let g = ltb-false m n e in inr (before n m (omega arith))

-- an entry written: that entry, and every other of the same part and of the other
module _ (w : ℕ) (width : Width w) (part : ℕ) (b : List ℕ) (n k c : ℕ) (i : n < 256) (l : k < w) where
  abbrev here : ℕ
  here = entry_place w part n k

  off_entry : (m q : ℕ) → (m ≡ n → q ≡ k → ⊥) → entry_at w part (put_entry w part b n k c) m q ≡ entry_at w part b m q
  unfolding put_entry
  off_entry m q ne =
      entry_same w (put_entry w part b n k c) b part m q (λ g h. word_apart b here c (entry_place w part m q) (apart h))
    where
      apart : q < w → (entry_place w part m q + 1 < here) ⊎ (here + 1 < entry_place w part m q)
      apart h =
          by_width (λ w. q < w → k < w → (entry_place w part m q ≡ entry_place w part n k → ⊥) → (entry_place w part m q + 1 < entry_place w part n k) ⊎ (entry_place w part n k + 1 < entry_place w part m q))
          w width (λ h l d. two (entry_place 8 part m q) (entry_place 8 part n k) d (omega arith)) (λ h l d. two (entry_place 18 part m q) (entry_place 18 part n k) d (omega arith))
          h l (λ z. let one = place_one part m q n k width h l z in ne one.0 one.1)
        where
          two : (x y : ℕ) → (x ≡ y → ⊥) → x % 2 ≡ y % 2 → (x + 1 < y) ⊎ (y + 1 < x)
          two x y d e = go (ltb x y) refl
            where
              go : (t : Bool) → ltb x y ≡ t → (x + 1 < y) ⊎ (y + 1 < x)
              go true f = let g = ltb-true x y f in inl (omega arith)
              go false f = let g = ltb-false x y f in inr (omega arith)

  on_entry : part + 512 * w ≤ length b → c < 65536 → entry_at w part (put_entry w part b n k c) n k ≡ c
  unfolding entry_at put_entry
  on_entry room small = rw (within {w = w} n k i l) (word_same b here c (omega (arith, entry_inside w part n k width i l)) small)

  pub entry_put : part + 512 * w ≤ length b → c < 65536 → (m q : ℕ) → entry_at w part (put_entry w part b n k c) m q ≡ set_at (entry_at w part b) n k c m q
  unfolding set_at
  entry_put room small m q = go (eqb m n) (eqb q k) refl refl
    where
      go : (x y : Bool) → eqb m n ≡ x → eqb q k ≡ y → entry_at w part (put_entry w part b n k c) m q ≡ cond (x && y) c (entry_at w part b m q)
      go true true e f = rw (eqb-true m n e, eqb-true q k f) (on_entry room small)
      go true false e f = off_entry m q (λ a z. eqb-false q k f z)
      go false y e f = off_entry m q (λ a z. eqb-false m n e a)

  -- the bytes before and behind the part stand as they were
  byte_outside : (j : ℕ) → (j < part) ⊎ (part + 512 * w ≤ j) → get_or (put_entry w part b n k c) j 0 ≡ get_or b j 0
  unfolding put_entry
  byte_outside j (inl h) = byte_apart b here c j (λ e. omega arith) (λ e. omega arith)
  byte_outside j (inr h) = let in_part = entry_inside w part n k width i l in byte_apart b here c j (λ e. omega (arith, in_part)) (λ e. omega (arith, in_part))

  pub entry_other : (w' part' : ℕ) → Width w' → (part + 512 * w ≤ part') ⊎ (part' + 512 * w' ≤ part) → (m q : ℕ) → entry_at w' part' (put_entry w part b n k c) m q ≡ entry_at w' part' b m q
  entry_other w' part' width' h m q =
      entry_same w' (put_entry w part b n k c) b part' m q
      (λ g r. ap₂ (λ x y. x + 256 * y) (byte_outside (entry_place w' part' m q) (out (entry_place w' part' m q) (omega arith) (omega (arith, entry_inside w' part' m q width' g r))))
      (byte_outside (entry_place w' part' m q + 1) (out (entry_place w' part' m q + 1) (omega arith) (omega (arith, entry_inside w' part' m q width' g r)))))
    where
      out : (j : ℕ) → part' ≤ j → j < part' + 512 * w' → (j < part) ⊎ (part + 512 * w ≤ j)
      out j x y = ⊎_elim (λ f. inr (omega arith)) (λ f. inl (omega arith)) h

  pub entry_mask : (w' part' : ℕ) → Width w' → (part' + 256 * mask_size w' ≤ part) ⊎ (part + 512 * w ≤ part') → (m q : ℕ) → mask_at w' part' (put_entry w part b n k c) m q ≡ mask_at w' part' b m q
  entry_mask w' part' width' h m q =
      mask_same w' (put_entry w part b n k c) b part' m q
      (λ g. number_same w' width' (put_entry w part b n k c) b (mask_place w' part' m) (λ j x y. byte_outside j (out j (omega arith) (omega (arith, mask_inside w' part' m width' g)))))
    where
      out : (j : ℕ) → part' ≤ j → j < part' + 256 * mask_size w' → (j < part) ⊎ (part + 512 * w ≤ j)
      out j x y = ⊎_elim (λ f. inl (omega arith)) (λ f. inr (omega arith)) h

  pub entry_long : length (put_entry w part b n k c) ≡ length b
  unfolding put_entry
  entry_long = length-set (set b here (c % 256)) (here + 1) (c / 256) ∙ length-set b here (c % 256)

-- a number written as a mask
module _ (w : ℕ) (width : Width w) (b : List ℕ) (i y : ℕ) where
  pub number_long : length (put_number w b i y) ≡ length b
  unfolding put_number
  number_long = go width
    where
      go : Width w → length (put_number w b i y) ≡ length b
      go (inl e) = rw e (length-set b i y)
      go (inr e) = rw e (length-set (set (set b i (y % 256)) (i + 1) (y / 256 % 256)) (i + 2) (y / 65536) ∙ length-set (set b i (y % 256)) (i + 1) (y / 256 % 256) ∙ length-set b i (y % 256))

  pub number_apart : (j : ℕ) → (j < i) ⊎ (i + mask_size w ≤ j) → get_or (put_number w b i y) j 0 ≡ get_or b j 0
  unfolding put_number
  number_apart j h = go width
    where
      apart : (d : ℕ) → d < mask_size w → j ≢ i + d
      apart d l e = ⊎_elim (λ f. omega arith) (λ f. omega arith) h

      go : Width w → get_or (put_number w b i y) j 0 ≡ get_or b j 0
      go (inl e) = rw e (get_or-set_other b i j y 0 (λ z. apart 0 (omega (arith, e)) (omega arith)))
      go (inr e) =
          rw e (get_or-set_other (set (set b i (y % 256)) (i + 1) (y / 256 % 256)) (i + 2) j (y / 65536) 0 (apart 2 (omega (arith, e)))
          ∙ get_or-set_other (set b i (y % 256)) (i + 1) j (y / 256 % 256) 0 (apart 1 (omega (arith, e)))
          ∙ get_or-set_other b i j (y % 256) 0 (λ z. apart 0 (omega (arith, e)) (omega arith)))

  pub number_there : i + mask_size w ≤ length b → mask_number w (put_number w b i y) i ≡ y
  unfolding put_number mask_number
  number_there room = go width
    where
      go : Width w → mask_number w (put_number w b i y) i ≡ y
      go (inl e) = rw e (get_or-set_same b i y 0 (omega (arith, e)))
      go (inr e) =
          let b₁ : List ℕ = set b i (y % 256) in
          let b₂ : List ℕ = set b₁ (i + 1) (y / 256 % 256) in
          let b₃ : List ℕ = set b₂ (i + 2) (y / 65536) in
          let long₁ : length b₁ ≡ length b = length-set b i (y % 256) in
          let long₂ : length b₂ ≡ length b = length-set b₁ (i + 1) (y / 256 % 256) ∙ long₁ in
          let low : get_or b₃ i 0 ≡ y % 256 = get_or-set_other b₂ (i + 2) i (y / 65536) 0 (λ z. omega arith) ∙ get_or-set_other b₁ (i + 1) i (y / 256 % 256) 0 (λ z. omega arith) ∙ get_or-set_same b i (y % 256) 0 (omega (arith, e)) in
          let middle : get_or b₃ (i + 1) 0 ≡ y / 256 % 256 = get_or-set_other b₂ (i + 2) (i + 1) (y / 65536) 0 (λ z. omega arith) ∙ get_or-set_same b₁ (i + 1) (y / 256 % 256) 0 (omega (arith, e, long₁)) in
          let high : get_or b₃ (i + 2) 0 ≡ y / 65536 = get_or-set_same b₂ (i + 2) (y / 65536) 0 (omega (arith, e, long₂)) in
          rw (e, low, middle, high) (omega arith)

-- a bit of a mask set or cleared: that bit, and every other of the same part and of the others
module _ (w : ℕ) (width : Width w) (part : ℕ) (b : List ℕ) (n p : ℕ) (on : Bool) (i : n < 256) (l : p < w) where
  mask_on : part + 256 * mask_size w ≤ length b → mask_number w (put_mask w part b n p on) (mask_place w part n) ≡ with_bit (mask_number w b (mask_place w part n)) p on
  unfolding put_mask
  mask_on room = number_there w width b (mask_place w part n) (with_bit (mask_number w b (mask_place w part n)) p on) (omega (arith, mask_inside w part n width i))

  mask_off : (j : ℕ) → (j < mask_place w part n) ⊎ (mask_place w part n + mask_size w ≤ j) → get_or (put_mask w part b n p on) j 0 ≡ get_or b j 0
  unfolding put_mask
  mask_off j h = number_apart w width b (mask_place w part n) (with_bit (mask_number w b (mask_place w part n)) p on) j h

  pub mask_put : part + 256 * mask_size w ≤ length b → (m q : ℕ) → mask_at w part (put_mask w part b n p on) m q ≡ set_at (mask_at w part b) n p on m q
  unfolding mask_at set_at
  mask_put room m q = go (eqb m n) refl (eqb q p) refl
    where
      go : (x : Bool) → eqb m n ≡ x → (y : Bool) → eqb q p ≡ y
          → in_table (8 * mask_size w) m q && has (mask_number w (put_mask w part b n p on) (mask_place w part m)) q ≡ cond (x && y) on (in_table (8 * mask_size w) m q && has (mask_number w b (mask_place w part m)) q)
      go true e true f = rw (eqb-true m n e, eqb-true q p f, within {w = 8 * mask_size w} n p i (omega (arith, width_masks width)), mask_on room) (with_bit_same _ p on)
      go true e false f = rw (eqb-true m n e, mask_on room, with_bit_other (mask_number w b (mask_place w part n)) p on q (eqb-false q p f)) refl
      go false e y f =
          ap (λ z. in_table (8 * mask_size w) m q && has z q) (number_same w width (put_mask w part b n p on) b (mask_place w part m)
          (λ j x y. mask_off j (⊎_elim (λ z. inl (omega arith)) (λ z. inr (omega arith)) (masks_apart w part m n width (eqb-false m n e)))))

  -- the bytes before and behind the part stand as they were
  mask_outside : (j : ℕ) → (j < part) ⊎ (part + 256 * mask_size w ≤ j) → get_or (put_mask w part b n p on) j 0 ≡ get_or b j 0
  mask_outside j h = mask_off j (⊎_elim (λ f. inl (omega arith)) (λ f. inr (omega (arith, mask_inside w part n width i))) h)

  pub mask_other : (w' part' : ℕ) → Width w' → (part + 256 * mask_size w ≤ part') ⊎ (part' + 256 * mask_size w' ≤ part) → (m q : ℕ) → mask_at w' part' (put_mask w part b n p on) m q ≡ mask_at w' part' b m q
  mask_other w' part' width' h m q =
      mask_same w' (put_mask w part b n p on) b part' m q
      (λ g. number_same w' width' (put_mask w part b n p on) b (mask_place w' part' m) (λ j x y. mask_outside j (out j (omega arith) (omega (arith, mask_inside w' part' m width' g)))))
    where
      out : (j : ℕ) → part' ≤ j → j < part' + 256 * mask_size w' → (j < part) ⊎ (part + 256 * mask_size w ≤ j)
      out j x y = ⊎_elim (λ f. inr (omega arith)) (λ f. inl (omega arith)) h

  pub mask_entry : (w' part' : ℕ) → Width w' → (part + 256 * mask_size w ≤ part') ⊎ (part' + 512 * w' ≤ part) → (m q : ℕ) → entry_at w' part' (put_mask w part b n p on) m q ≡ entry_at w' part' b m q
  mask_entry w' part' width' h m q =
      entry_same w' (put_mask w part b n p on) b part' m q
      (λ g r. ap₂ (λ x y. x + 256 * y) (mask_outside (entry_place w' part' m q) (out (entry_place w' part' m q) (omega arith) (omega (arith, entry_inside w' part' m q width' g r))))
      (mask_outside (entry_place w' part' m q + 1) (out (entry_place w' part' m q + 1) (omega arith) (omega (arith, entry_inside w' part' m q width' g r)))))
    where
      out : (j : ℕ) → part' ≤ j → j < part' + 512 * w' → (j < part) ⊎ (part + 256 * mask_size w ≤ j)
      out j x y = ⊎_elim (λ f. inr (omega arith)) (λ f. inl (omega arith)) h

  pub mask_long : length (put_mask w part b n p on) ≡ length b
  unfolding put_mask
  mask_long = number_long w width b (mask_place w part n) (with_bit (mask_number w b (mask_place w part n)) p on)

-- the fold mask, where the bytes are as many and none before the masks has changed
fold_same : (q : ℕ) (b b' : List ℕ) → length b' ≡ length b → get_or b' 1 0 ≡ get_or b 1 0 → fold_at b' ≡ fold_at b
unfolding fold_at
fold_same q b b' l e = rw (l, e) refl

-- a value at a node and a place, of two functions that are one
pub at : {A : Type 0} {f g : ℕ → ℕ → A} → f ≡ g → (m q : ℕ) → f m q ≡ g m q
at e m q = ap (λ f. f m q) e

module _ {long q enable links receives arms : ℕ} (laws : LayoutLaws long q enable links receives arms) (b : List ℕ) where
  abbrev pub of_links : ResourceLaws long q enable links enabled_at owner_at put_enabled put_owner
  of_links = links_laws laws

  abbrev pub of_channels : ResourceLaws long channels arms receives armed_at receiver_at put_armed put_receiver
  of_channels = channels_laws laws

  -- What the table shows after a link or a receive channel is given to a circuit.
  pub view_put_owner_over : (n p c : ℕ) → InTable long q b n p → c < 65536 → view (put_owner b n p c) ≡ set_owner (view b) n p c
  unfolding view set_owner dimension_at
  view_put_owner_over n p c w small = shown (put_owner b n p c) (at' (of_links.put_owner_is b w.bytes))
    where
      at' : {f g : ℕ → ℕ → ℕ → List ℕ} → f ≡ g → f n p c ≡ g n p c
      at' e = ap (λ f. f n p c) e

      shown : (b' : List ℕ) → b' ≡ put_entry q links b n p c → view b' ≡ set_owner (view b) n p c
      shown b' e =
          rw e (λ i.
          record {
            dimension = byte_outside q of_links.width_is links b n p c w.node w.port 0 (inl (omega (arith, laws.links_is))) i;
            fold = fold_same q b (put_entry q links b n p c) same (byte_outside q of_links.width_is links b n p c w.node w.port 1 (inl (omega (arith, laws.links_is)))) i;
            enabled = λ m r. (at (of_links.enabled_is _ long') m r ∙ entry_mask q of_links.width_is links b n p c w.node w.port q enable of_links.width_is (inl (omega (arith, laws.links_is, laws.enable_is))) m r ∙ sym (at (of_links.enabled_is b w.bytes) m r)) i;
            owner = λ m r. (at (of_links.owner_is _ long') m r ∙ entry_put q of_links.width_is links b n p c w.node w.port (omega (arith, w.bytes, of_links.rows_inside)) small m r ∙ ap (λ (f : ℕ → ℕ → ℕ). set_at f n p c m r) (sym (of_links.owner_is b w.bytes))) i;
            receiver = λ m r. (at (of_channels.owner_is _ long') m r ∙ entry_other q of_links.width_is links b n p c w.node w.port channels receives of_channels.width_is (inl (omega (arith, laws.links_is, laws.receives_is))) m r ∙ sym (at (of_channels.owner_is b w.bytes) m r)) i;
            armed = λ m r. (at (of_channels.enabled_is _ long') m r ∙ entry_mask q of_links.width_is links b n p c w.node w.port channels arms of_channels.width_is (inr (omega (arith, laws.links_is, laws.arms_is))) m r ∙ sym (at (of_channels.enabled_is b w.bytes) m r)) i;
          })
        where
          same : length (put_entry q links b n p c) ≡ length b
          same = entry_long q of_links.width_is links b n p c w.node w.port

          long' : length (put_entry q links b n p c) ≡ long
          long' = same ∙ w.bytes

  pub view_put_receiver_over : (n k c : ℕ) → InTable long channels b n k → c < 65536 → view (put_receiver b n k c) ≡ set_receiver (view b) n k c
  unfolding view set_receiver dimension_at
  view_put_receiver_over n k c w small = shown (put_receiver b n k c) (at' (of_channels.put_owner_is b w.bytes))
    where
      at' : {f g : ℕ → ℕ → ℕ → List ℕ} → f ≡ g → f n k c ≡ g n k c
      at' e = ap (λ f. f n k c) e

      shown : (b' : List ℕ) → b' ≡ put_entry channels receives b n k c → view b' ≡ set_receiver (view b) n k c
      shown b' e =
          rw e (λ i.
          record {
            dimension = byte_outside channels of_channels.width_is receives b n k c w.node w.port 0 (inl (omega (arith, laws.receives_is))) i;
            fold = fold_same q b (put_entry channels receives b n k c) same (byte_outside channels of_channels.width_is receives b n k c w.node w.port 1 (inl (omega (arith, laws.receives_is)))) i;
            enabled = λ m r. (at (of_links.enabled_is _ long') m r ∙ entry_mask channels of_channels.width_is receives b n k c w.node w.port q enable of_links.width_is (inl (omega (arith, laws.receives_is, laws.enable_is))) m r ∙ sym (at (of_links.enabled_is b w.bytes) m r)) i;
            owner = λ m r. (at (of_links.owner_is _ long') m r ∙ entry_other channels of_channels.width_is receives b n k c w.node w.port q links of_links.width_is (inr (omega (arith, laws.links_is, laws.receives_is))) m r ∙ sym (at (of_links.owner_is b w.bytes) m r)) i;
            receiver = λ m r. (at (of_channels.owner_is _ long') m r ∙ entry_put channels of_channels.width_is receives b n k c w.node w.port (omega (arith, w.bytes, of_channels.rows_inside)) small m r ∙ ap (λ (f : ℕ → ℕ → ℕ). set_at f n k c m r) (sym (of_channels.owner_is b w.bytes))) i;
            armed = λ m r. (at (of_channels.enabled_is _ long') m r ∙ entry_mask channels of_channels.width_is receives b n k c w.node w.port channels arms of_channels.width_is (inr (omega (arith, laws.receives_is, laws.arms_is))) m r ∙ sym (at (of_channels.enabled_is b w.bytes) m r)) i;
          })
        where
          same : length (put_entry channels receives b n k c) ≡ length b
          same = entry_long channels of_channels.width_is receives b n k c w.node w.port

          long' : length (put_entry channels receives b n k c) ≡ long
          long' = same ∙ w.bytes

  -- What the table shows after a link is enabled or not, or a channel armed or not.
  pub view_put_enabled_over : (n p : ℕ) (on : Bool) → InTable long q b n p → view (put_enabled b n p on) ≡ set_enabled (view b) n p on
  unfolding view set_enabled dimension_at
  view_put_enabled_over n p on w = shown (put_enabled b n p on) (at' (of_links.put_enabled_is b w.bytes))
    where
      at' : {f g : ℕ → ℕ → Bool → List ℕ} → f ≡ g → f n p on ≡ g n p on
      at' e = ap (λ f. f n p on) e

      shown : (b' : List ℕ) → b' ≡ put_mask q enable b n p on → view b' ≡ set_enabled (view b) n p on
      shown b' e =
          rw e (λ i.
          record {
            dimension = mask_outside q of_links.width_is enable b n p on w.node w.port 0 (inl (omega (arith, laws.enable_is))) i;
            fold = folded i;
            enabled = λ m r. (at (of_links.enabled_is _ long') m r ∙ mask_put q of_links.width_is enable b n p on w.node w.port (omega (arith, w.bytes, of_links.masks_inside)) m r ∙ ap (λ (f : ℕ → ℕ → Bool). set_at f n p on m r) (sym (of_links.enabled_is b w.bytes))) i;
            owner = λ m r. (at (of_links.owner_is _ long') m r ∙ mask_entry q of_links.width_is enable b n p on w.node w.port q links of_links.width_is (inl (omega (arith, laws.links_is, laws.enable_is))) m r ∙ sym (at (of_links.owner_is b w.bytes) m r)) i;
            receiver = λ m r. (at (of_channels.owner_is _ long') m r ∙ mask_entry q of_links.width_is enable b n p on w.node w.port channels receives of_channels.width_is (inl (omega (arith, laws.receives_is, laws.enable_is))) m r ∙ sym (at (of_channels.owner_is b w.bytes) m r)) i;
            armed = λ m r. (at (of_channels.enabled_is _ long') m r ∙ mask_other q of_links.width_is enable b n p on w.node w.port channels arms of_channels.width_is (inl (omega (arith, laws.arms_is, laws.enable_is))) m r ∙ sym (at (of_channels.enabled_is b w.bytes) m r)) i;
          })
        where
          same : length (put_mask q enable b n p on) ≡ length b
          same = mask_long q of_links.width_is enable b n p on w.node w.port

          long' : length (put_mask q enable b n p on) ≡ long
          long' = same ∙ w.bytes

          -- of a narrow table the first mask stands where a wide one has the fold mask
          folded : fold_at (put_mask q enable b n p on) ≡ fold_at b
          folded = go laws.ports_are
            where
              go : Width q → fold_at (put_mask q enable b n p on) ≡ fold_at b
              go (inl f) = fold_none (put_mask q enable b n p on) (long' ∙ laws.long_is ∙ ap length_of f) ∙ sym (fold_none b (w.bytes ∙ laws.long_is ∙ ap length_of f))
              go (inr f) = fold_same q b (put_mask q enable b n p on) same (mask_outside q of_links.width_is enable b n p on w.node w.port 1 (inl (omega (arith, laws.enable_is, f))))

  pub view_put_armed_over : (n k : ℕ) (on : Bool) → InTable long channels b n k → view (put_armed b n k on) ≡ set_armed (view b) n k on
  unfolding view set_armed dimension_at
  view_put_armed_over n k on w = shown (put_armed b n k on) (at' (of_channels.put_enabled_is b w.bytes))
    where
      at' : {f g : ℕ → ℕ → Bool → List ℕ} → f ≡ g → f n k on ≡ g n k on
      at' e = ap (λ f. f n k on) e

      shown : (b' : List ℕ) → b' ≡ put_mask channels arms b n k on → view b' ≡ set_armed (view b) n k on
      shown b' e =
          rw e (λ i.
          record {
            dimension = mask_outside channels of_channels.width_is arms b n k on w.node w.port 0 (inl (omega (arith, laws.arms_is))) i;
            fold = fold_same q b (put_mask channels arms b n k on) same (mask_outside channels of_channels.width_is arms b n k on w.node w.port 1 (inl (omega (arith, laws.arms_is)))) i;
            enabled = λ m r. (at (of_links.enabled_is _ long') m r ∙ mask_other channels of_channels.width_is arms b n k on w.node w.port q enable of_links.width_is (inr (omega (arith, laws.arms_is, laws.enable_is))) m r ∙ sym (at (of_links.enabled_is b w.bytes) m r)) i;
            owner = λ m r. (at (of_links.owner_is _ long') m r ∙ mask_entry channels of_channels.width_is arms b n k on w.node w.port q links of_links.width_is (inr (omega (arith, laws.arms_is, laws.links_is))) m r ∙ sym (at (of_links.owner_is b w.bytes) m r)) i;
            receiver = λ m r. (at (of_channels.owner_is _ long') m r ∙ mask_entry channels of_channels.width_is arms b n k on w.node w.port channels receives of_channels.width_is (inr (omega (arith, laws.arms_is, laws.receives_is))) m r ∙ sym (at (of_channels.owner_is b w.bytes) m r)) i;
            armed = λ m r. (at (of_channels.enabled_is _ long') m r ∙ mask_put channels of_channels.width_is arms b n k on w.node w.port (omega (arith, w.bytes, of_channels.masks_inside)) m r ∙ ap (λ (f : ℕ → ℕ → Bool). set_at f n k on m r) (sym (of_channels.enabled_is b w.bytes))) i;
          })
        where
          same : length (put_mask channels arms b n k on) ≡ length b
          same = mask_long channels of_channels.width_is arms b n k on w.node w.port

          long' : length (put_mask channels arms b n k on) ≡ long
          long' = same ∙ w.bytes

-- of either table, as its length says
pub view_put_owner_of : (b : List ℕ) → IsTable b → (n p c : ℕ) → n < 256 → p < ports_in b → c < 65536 → view (put_owner b n p c) ≡ set_owner (view b) n p c
view_put_owner_of b l n p c h k small = view_put_owner_over (layout_laws (ports_in b) (width_in b)) b n p c record { bytes = l; node = h; port = k } small

pub view_put_receiver_of : (b : List ℕ) → IsTable b → (n k c : ℕ) → n < 256 → k < channels → c < 65536 → view (put_receiver b n k c) ≡ set_receiver (view b) n k c
view_put_receiver_of b l n k c h j small = view_put_receiver_over (layout_laws (ports_in b) (width_in b)) b n k c record { bytes = l; node = h; port = j } small

-- of a narrow table
pub view_put_owner : (b : List ℕ) (n p c : ℕ) → Within b n p → c < 65536 → view (put_owner b n p c) ≡ set_owner (view b) n p c
view_put_owner b n p c w small = view_put_owner_over narrow_laws b n p c w small

pub view_put_receiver : (b : List ℕ) (n k c : ℕ) → Within b n k → c < 65536 → view (put_receiver b n k c) ≡ set_receiver (view b) n k c
view_put_receiver b n k c w small = view_put_receiver_over narrow_laws b n k c w small

pub view_put_enabled : (b : List ℕ) (n p : ℕ) (on : Bool) → Within b n p → view (put_enabled b n p on) ≡ set_enabled (view b) n p on
view_put_enabled b n p on w = view_put_enabled_over narrow_laws b n p on w

pub view_put_armed : (b : List ℕ) (n k : ℕ) (on : Bool) → Within b n k → view (put_armed b n k on) ≡ set_armed (view b) n k on
view_put_armed b n k on w = view_put_armed_over narrow_laws b n k on w

-- where a narrow table's values lie
module _ (b : List ℕ) (long : length b ≡ table_length) (n k : ℕ) where
  pub shown_enabled : enabled_at b n k ≡ mask_at 8 1 b n k
  shown_enabled = at ((of_links narrow_laws b).enabled_is b long) n k

  pub shown_owner : owner_at b n k ≡ entry_at 8 257 b n k
  shown_owner = at ((of_links narrow_laws b).owner_is b long) n k

  pub shown_receiver : receiver_at b n k ≡ entry_at 8 4353 b n k
  shown_receiver = at ((of_channels narrow_laws b).owner_is b long) n k

  pub shown_armed : armed_at b n k ≡ mask_at 8 8449 b n k
  shown_armed = at ((of_channels narrow_laws b).enabled_is b long) n k
