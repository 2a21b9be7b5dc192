-- The parts written one after another, and that the table written then shows what the table read shows.
-- Assumes nothing.
use mathlib.Core.Path.{◌≡◌, refl, ap, ap₂, sym, ◌∙◌}
use mathlib.Core.Logic.{inl, inr, ⊎_elim, ◌⊎◌}
use mathlib.Core.Bool.{Bool, true, false, cond, ◌&&◌, and-false}
use mathlib.Core.List.{List, ◌++◌}
use Prim.Native.Nat.{ℕ, ◌+◌, ◌-◌, ◌*◌, ◌^◌, ◌≤◌, ◌<◌}
use native.Mathlib.Omega.{arith}
use native.Mathlib.Nat.{lt_of_lt_of_le}
use lib.Dec.{ltb, lit<, lit≤}
use lib.ListN.{length, take, drop, get_or, set, replicate, get_or-replicate, length-set, length-append, get_or-append}
use lib.Seq.{get_or-set_same}
use borrow.Rule.Slice.PartMut.{put_mid}
use borrow.Author.Tests.{lt-ltb, le-ltb, ltb-true, ltb-false}
use Rattle.std.proofs.lemmas.List.{get_or-take, get_or-drop, length-drop, length-take-le}
use Rattle.common.proofs.Tests.{same?, below_or}
use Rattle.cube.specs.Bits.{has}
use Rattle.cube.proofs.Bits.{high_has}
use Rattle.layout.specs.Layout.{length_of, in_table, dimension_at, fold_at, mask_size, mask_place, mask_number, mask_at, entry_place, entry_at, word_at}
use Rattle.layout.specs.LayoutContracts.{put_number, node_rows}
use Rattle.layout.specs.Resources.{Width, width_least, LayoutLaws}
use Rattle.layout.proofs.Entries.{by_width, row_room, within, inside, rows_word}
use Rattle.layout.proofs.Parts.{part_long, part_before, part_at}
use Rattle.entries.proofs.EnableBits.{enable_number}
use Rattle.table.specs.View.{view}
use Rattle.table.specs.Encode.{encode_over}
use Rattle.table.proofs.Views.{at, of_links, of_channels, number_same, number_apart, number_there, mask_inside}
use Rattle.table.proofs.Encoded.{encode_shown_over}
use Rattle.layout.proofs.Folds.{fold_none, fold_wide}
use Rattle.converting.specs.ConvertContracts.{FrontWritten, MasksFit, MasksCopied, RowCopied, LinksCopied, ChannelsCopied, FitsBoth}

-- one mask more
module _ (w part q masks : ℕ) (from old : List ℕ) where
  pub masks_none : MasksCopied w part q masks from 0 old old
  masks_none = record { before = λ j h. refl; same = λ n h. absurd (omega arith) }

  pub masks_more : Width q → (b : List ℕ) (k i x : ℕ) → MasksCopied w part q masks from k old b → k < 256 → masks + 256 * mask_size q ≤ length b → i ≡ mask_place q masks k
      → x ≡ mask_number w from (mask_place w part k) → MasksCopied w part q masks from (k + 1) old (put_number q b i x)
  masks_more width b k i x g h room e f =
      record {
        before = λ j l. number_apart q width b i x j (inl (omega (arith, e))) ∙ g.before j l;
        same = λ n l.
            ⊎_elim (λ (z : n ≡ k). rw (z, ← e) (number_there q width b i x (omega (arith, e, mask_inside q masks k width h)) ∙ f))
            (λ z. number_same q width (put_number q b i x) b (mask_place q masks n) (λ j y t. number_apart q width b i x j (inl (omega (arith, e, behind n (omega arith))))) ∙ g.same n (omega arith)) (same? n k);
      }
    where
      behind : (n : ℕ) → n < k → mask_place q masks n + mask_size q ≤ mask_place q masks k
      behind n l = by_width (λ q. mask_place q masks n + mask_size q ≤ mask_place q masks k) q width (omega arith) (omega arith)

-- a byte is a mask of either table
pub byte_fits : {long q enable links receives arms : ℕ} → LayoutLaws long q enable links receives arms → {x y : ℕ} → x ≡ y → y < 256 → x < 2 ^ (8 * mask_size q)
byte_fits {long} {q} laws {x} {y} e h = rw e (go laws.ports_are)
  where
    go : Width q → y < 2 ^ (8 * mask_size q)
    go (inl e) = rw e h
    go (inr e) = rw e (lt_of_lt_of_le h (lit≤ tt))

-- a row lies in its table
pub row_inside : {long q enable links receives arms : ℕ} → LayoutLaws long q enable links receives arms → (n : ℕ) → n < 256 → links + 2 * (q * n) + 2 * q ≤ long
row_inside {long} {q} {enable} {links} laws n h = omega (arith, laws.long_is, laws.links_is, row_room n laws.ports_are h)

-- one row more
module _ (w part q rows : ℕ) (from old : List ℕ) where
  pub links_none : LinksCopied w part q rows from 0 old old
  links_none = record { before = λ j h. refl; entries = λ n p h l. absurd (omega arith) }

  pub links_more : Width w → Width q → (b ys : List ℕ) (k i c : ℕ) {row : List ℕ} → LinksCopied w part q rows from k old b → k < 256 → i ≡ entry_place q rows k 0 → rows + 512 * q ≤ length b
      → row ≡ node_rows w part from k 1 → length ys ≡ 2 * q → RowCopied row ys → LinksCopied w part q rows from (k + 1) old (put_mid i c b ys)
  unfolding RowCopied
  links_more less width b ys k i c {row} g h e room f long copied =
      record {
        before = λ j l. part_before i c b ys here j (omega (arith, e)) ∙ g.before j l;
        entries = λ n p l m. ⊎_elim (λ (z : n ≡ k). rw z (there p m)) (λ z. earlier n p (omega arith) m ∙ g.entries n p (omega arith) m) (same? n k);
      }
    where
      inside_part : entry_place q rows k 0 + 2 * q ≤ rows + 512 * q
      inside_part = by_width (λ q. entry_place q rows k 0 + 2 * q ≤ rows + 512 * q) q width (omega arith) (omega arith)

      here : i ≤ length b
      here = omega (arith, e, inside_part)

      earlier : (n p : ℕ) → n < k → p < q → word_at (put_mid i c b ys) (entry_place q rows n p) ≡ word_at b (entry_place q rows n p)
      earlier n p l m =
          let last : entry_place q rows n p + 2 ≤ entry_place q rows k 0 = by_width (λ q. p < q → entry_place q rows n p + 2 ≤ entry_place q rows k 0) q width (λ m. omega arith) (λ m. omega arith) m in
          ap₂ (λ x y. x + 256 * y) (part_before i c b ys here _ (omega (arith, e))) (part_before i c b ys here _ (omega (arith, e)))

      read : (p : ℕ) → (t : Bool) → ltb p 8 ≡ t → cond t (word_at row (2 * p)) 0 ≡ cond t (word_at from (entry_place w part k p)) 0
      read p true t =
          let few : p < w * 1 = omega (arith, width_least less, ltb-true p 8 t) in
          let place : entry_place w part k 0 + 2 * p ≡ entry_place w part k p = omega arith in
          ap (λ xs. word_at xs (2 * p)) f ∙ rows_word w part from k 1 p few ∙ ap (word_at from) place
      read p false t = refl

      there : (p : ℕ) → p < q → word_at (put_mid i c b ys) (entry_place q rows k p) ≡ cond (ltb p 8) (word_at from (entry_place w part k p)) 0
      there p m =
          let low : entry_place q rows k p ≡ i + 2 * p = omega (arith, e) in
          let high : entry_place q rows k p + 1 ≡ i + (2 * p + 1) = omega (arith, e) in
          ap₂ (λ x y. x + 256 * y) (ap (λ j. get_or (put_mid i c b ys) j 0) low ∙ part_at i c b ys here (2 * p) (omega (arith, long))) (ap (λ j. get_or (put_mid i c b ys) j 0) high ∙ part_at i c b ys here (2 * p + 1) (omega (arith, long)))
          ∙ copied p (omega (arith, long)) ∙ read p (ltb p 8) refl

-- The first part.
pub front_written : (b : List ℕ) (D : ℕ) (zs : List ℕ) {k masks : ℕ} → 1 ≤ length b → k ≡ masks - 1 → masks ≤ length b → zs ≡ replicate (length zs) 0 → length zs ≡ length (take k (drop 1 (set b 0 D)))
    → FrontWritten masks D (put_mid 1 k (set b 0 D) zs)
front_written b D zs {k} {masks} some count room zeros same =
    record {
      dimension = part_before 1 k (set b 0 D) zs long 0 (lit< tt) ∙ get_or-set_same b 0 D 0 (omega arith);
      unfolded = λ j h l. ap (λ i. get_or (put_mid 1 k (set b 0 D) zs) i 0) (from_one j h) ∙ part_at 1 k (set b 0 D) zs long (j - 1) (omega (arith, many)) ∙ ap (λ xs. get_or xs (j - 1) 0) zeros ∙ get_or-replicate (length zs) (j - 1) 0 0 (omega (arith, many));
    }
  where
    long : 1 ≤ length (set b 0 D)
    long = omega (arith, length-set b 0 D)

    many : length zs ≡ k
    many = same ∙ part_long (set b 0 D) 1 k (omega (arith, length-set b 0 D))

    from_one : (j : ℕ) → 1 ≤ j → j ≡ 1 + (j - 1)
    from_one j h = omega arith

-- A row of sixteen bytes, and zeros behind it.
pub row_copied : (row old front zs : List ℕ) {k : ℕ} → 16 ≤ length row → 16 ≤ length old → front ≡ take 16 row → zs ≡ replicate (length zs) 0 → length zs ≡ length (take k (drop 16 (front ++ drop 16 old)))
    → k ≡ length (front ++ drop 16 old) - 16 → RowCopied row (put_mid 16 k (front ++ drop 16 old) zs)
unfolding RowCopied
row_copied row old front zs {k} long room same zeros many count p h = go (ltb p 8) refl
  where
    b : List ℕ
    b = front ++ drop 16 old

    front_long : length front ≡ 16
    front_long = ap length same ∙ length-take-le 16 row long

    here : 16 ≤ length b
    here = omega (arith, length-append front (drop 16 old), front_long)

    zeros_long : length zs ≡ k
    zeros_long = many ∙ part_long b 16 k (omega (arith, count, here))

    all_long : length (put_mid 16 k b zs) ≡ length b
    all_long = length-append (take 16 b) (zs ++ drop k (drop 16 b)) ∙ ap₂ ◌+◌ (length-take-le 16 b here) (length-append zs (drop k (drop 16 b)) ∙ ap (length zs +◌) (length-drop k (drop 16 b) ∙ ap (◌- k) (length-drop 16 b))) ∙ omega (arith, zeros_long, count, here)

    kept : (j : ℕ) → j < 16 → get_or (put_mid 16 k b zs) j 0 ≡ get_or row j 0
    kept j l = part_before 16 k b zs here j l ∙ get_or-append front (drop 16 old) 0 j (omega (arith, front_long)) ∙ ap (λ xs. get_or xs j 0) same ∙ get_or-take 16 row j 0 l

    cleared : (j : ℕ) → 16 ≤ j → j < length b → get_or (put_mid 16 k b zs) j 0 ≡ 0
    cleared j l m =
        let place : j ≡ 16 + (j - 16) = omega arith in
        ap (λ i. get_or (put_mid 16 k b zs) i 0) place ∙ part_at 16 k b zs here (j - 16) (omega (arith, zeros_long, count)) ∙ ap (λ xs. get_or xs (j - 16) 0) zeros
        ∙ get_or-replicate (length zs) (j - 16) 0 0 (omega (arith, zeros_long, count))

    go : (t : Bool) → ltb p 8 ≡ t → word_at (put_mid 16 k b zs) (2 * p) ≡ cond t (word_at row (2 * p)) 0
    go true t = let l = ltb-true p 8 t in ap₂ (λ x y. x + 256 * y) (kept (2 * p) (omega arith)) (kept (2 * p + 1) (omega arith))
    go false t = let l = ltb-false p 8 t in rw (cleared (2 * p) (omega arith) (omega (arith, all_long, h)), cleared (2 * p + 1) (omega arith) (omega (arith, all_long, h))) refl

-- The last parts.
pub channels_copied : (from b ys : List ℕ) (i j c d part receives : ℕ) → i ≡ part → j ≡ receives → receives ≤ length b → part ≤ length from → c ≡ length from - i → ys ≡ take c (drop i from)
    → ChannelsCopied part receives from b (put_mid j d b ys)
channels_copied from b ys i j c d part receives e f room inside_from count same =
    record {
      before = λ m l. part_before j d b ys (omega (arith, f)) m (omega (arith, f));
      same = λ m l.
          ap (λ r. get_or (put_mid j d b ys) (r + m) 0) (sym f) ∙ part_at j d b ys (omega (arith, f)) m (omega (arith, long, count, e)) ∙ ap (λ xs. get_or xs m 0) same
          ∙ get_or-take c (drop i from) m 0 (omega (arith, count, e)) ∙ get_or-drop i from m 0 ∙ ap (λ r. get_or from (r + m) 0) e;
    }
  where
    long : length ys ≡ c
    long = ap length same ∙ part_long from i c (omega (arith, e))

-- A table that fits both, read in its layout.
module _ {long q enable links receives arms : ℕ} (laws : LayoutLaws long q enable links receives arms) (b : List ℕ) (l : length b ≡ long) (fits : FitsBoth b) where
  pub masks_fit : MasksFit q enable b
  unfolding MasksFit
  masks_fit n h = rw (enable_number laws b n l refl refl) (fits.masks n h)

-- Four lists of bytes, a part written after another.
module _ {long q enable links receives arms long' q' enable' links' receives' arms' : ℕ} (laws : LayoutLaws long q enable links receives arms) (laws' : LayoutLaws long' q' enable' links' receives' arms')
    (from : List ℕ) {s₁ s₂ s₃ s₄ : List ℕ} (l : length from ≡ long) (fits : FitsBoth from) (front : FrontWritten enable' (get_or from 0 0) s₁) (masks : MasksCopied q enable q' enable' from 256 s₁ s₂)
    (rows : LinksCopied q links q' links' from 256 s₂ s₃) (channels : ChannelsCopied receives receives' from s₃ s₄) (l' : length s₄ ≡ long') where
  width : Width q
  width = laws.ports_are

  width' : Width q'
  width' = laws'.ports_are

  -- what was written before the last parts stands
  from_links : (j : ℕ) → j < receives' → get_or s₄ j 0 ≡ get_or s₃ j 0
  from_links = channels.before

  from_masks : (j : ℕ) → j < links' → get_or s₄ j 0 ≡ get_or s₂ j 0
  from_masks j h = channels.before j (omega (arith, laws'.links_is, laws'.receives_is)) ∙ rows.before j h

  from_front : (j : ℕ) → j < enable' → get_or s₄ j 0 ≡ get_or s₁ j 0
  from_front j h = from_masks j (omega (arith, laws'.links_is, laws'.enable_is)) ∙ masks.before j h

  fold_shown : fold_at s₄ ≡ 0
  fold_shown = go width'
    where
      go : Width q' → fold_at s₄ ≡ 0
      go (inl e) = fold_none s₄ (l' ∙ laws'.long_is ∙ ap length_of e)
      go (inr e) = fold_wide s₄ (l' ∙ laws'.long_is ∙ ap length_of e) ∙ from_front 1 (omega (arith, laws'.enable_is, e)) ∙ front.unfolded 1 (lit≤ tt) (omega (arith, laws'.enable_is, e))

  -- a mask is one number in both
  number_shown : (n : ℕ) → n < 256 → mask_number q' s₄ (mask_place q' enable' n) ≡ mask_number q from (mask_place q enable n)
  number_shown n h =
      number_same q' width' s₄ s₂ (mask_place q' enable' n) (λ j y t. from_masks j (omega (arith, laws'.links_is, laws'.enable_is, mask_inside q' enable' n width' h))) ∙ masks.same n h

  mask_shown : (n p : ℕ) → mask_at q' enable' s₄ n p ≡ mask_at q enable from n p
  unfolding mask_at MasksFit
  mask_shown n p = go (below_or 256 n)
    where
      bits : Width q → 8 ≤ 8 * mask_size q
      bits (inl e) = rw e (lit≤ tt)
      bits (inr e) = rw e (lit≤ tt)

      bits' : Width q' → 8 ≤ 8 * mask_size q'
      bits' (inl e) = rw e (lit≤ tt)
      bits' (inr e) = rw e (lit≤ tt)

      go : (n < 256) ⊎ (256 ≤ n) → in_table (8 * mask_size q') n p && has (mask_number q' s₄ (mask_place q' enable' n)) p ≡ in_table (8 * mask_size q) n p && has (mask_number q from (mask_place q enable n)) p
      go (inr h) = rw (le-ltb n 256 h) refl
      go (inl h) = rw (number_shown n h) (ports (below_or 8 p))
        where
          ports : (p < 8) ⊎ (8 ≤ p) → in_table (8 * mask_size q') n p && has (mask_number q from (mask_place q enable n)) p ≡ in_table (8 * mask_size q) n p && has (mask_number q from (mask_place q enable n)) p
          ports (inl k) = rw (within {w = 8 * mask_size q'} n p h (omega (arith, bits' width')), within {w = 8 * mask_size q} n p h (omega (arith, bits width))) refl
          ports (inr k) = rw (high_has 8 (mask_number q from (mask_place q enable n)) p (masks_fit laws from l fits n h) k) (and-false (in_table (8 * mask_size q') n p) ∙ sym (and-false (in_table (8 * mask_size q) n p)))

  owner_shown : (n p : ℕ) → entry_at q' links' s₄ n p ≡ entry_at q links from n p
  unfolding entry_at
  owner_shown n p = go (below_or 256 n) (below_or 8 p)
    where
      none : 8 ≤ p → cond (in_table q n p) (word_at from (entry_place q links n p)) 0 ≡ 0
      none k = sym (at ((of_links laws from).owner_is from l) n p) ∙ fits.links n p k

      read : n < 256 → p < q' → word_at s₄ (entry_place q' links' n p) ≡ cond (ltb p 8) (word_at from (entry_place q links n p)) 0
      read h k =
          let last : entry_place q' links' n p + 2 ≤ links' + 512 * q' = by_width (λ q. p < q → entry_place q links' n p + 2 ≤ links' + 512 * q) q' width' (λ k. omega arith) (λ k. omega arith) k in
          ap₂ (λ x y. x + 256 * y) (from_links _ (omega (arith, laws'.links_is, laws'.receives_is))) (from_links _ (omega (arith, laws'.links_is, laws'.receives_is))) ∙ rows.entries n p h k

      go : (n < 256) ⊎ (256 ≤ n) → (p < 8) ⊎ (8 ≤ p) → cond (in_table q' n p) (word_at s₄ (entry_place q' links' n p)) 0 ≡ cond (in_table q n p) (word_at from (entry_place q links n p)) 0
      go (inr h) k = rw (le-ltb n 256 h) refl
      go (inl h) (inl k) =
          rw (within {w = q'} n p h (omega (arith, width_least width')), within {w = q} n p h (omega (arith, width_least width)))
          (read h (omega (arith, width_least width')) ∙ rw (lt-ltb p 8 k) refl)
      go (inl h) (inr k) = nothing (in_table q' n p) refl ∙ sym (none k)
        where
          nothing : (t : Bool) → in_table q' n p ≡ t → cond t (word_at s₄ (entry_place q' links' n p)) 0 ≡ 0
          nothing true t = read h (inside {w = q'} n p t).1 ∙ rw (le-ltb p 8 k) refl
          nothing false t = refl

  -- the last parts of both lie alike
  byte_shown : (j : ℕ) → j < 4352 → get_or s₄ (receives' + j) 0 ≡ get_or from (receives + j) 0
  byte_shown j h = channels.same j (omega (arith, l, laws.long_is, laws.receives_is))

  receiver_shown : (n k : ℕ) → entry_at 8 receives' s₄ n k ≡ entry_at 8 receives from n k
  unfolding entry_at
  receiver_shown n k = go (in_table 8 n k) refl
    where
      go : (t : Bool) → in_table 8 n k ≡ t → cond t (word_at s₄ (entry_place 8 receives' n k)) 0 ≡ cond t (word_at from (entry_place 8 receives n k)) 0
      go false t = refl
      go true t =
          let h = inside {w = 8} n k t in
          ap₂ (λ x y. x + 256 * y)
          (ap (λ i. get_or s₄ i 0) (place receives' 0) ∙ byte_shown (16 * n + 2 * k + 0) (omega (arith, h.0, h.1)) ∙ ap (λ i. get_or from i 0) (sym (place receives 0)))
          (ap (λ i. get_or s₄ i 0) (place_on receives') ∙ byte_shown (16 * n + 2 * k + 1) (omega (arith, h.0, h.1)) ∙ ap (λ i. get_or from i 0) (sym (place_on receives)))
        where
          place : (r d : ℕ) → entry_place 8 r n k ≡ r + (16 * n + 2 * k + 0)
          place r d = omega arith

          place_on : (r : ℕ) → entry_place 8 r n k + 1 ≡ r + (16 * n + 2 * k + 1)
          place_on r = omega arith

  armed_shown : (n k : ℕ) → mask_at 8 arms' s₄ n k ≡ mask_at 8 arms from n k
  unfolding mask_at mask_number
  armed_shown n k = go (in_table 8 n k) refl
    where
      place : mask_place 8 arms' n ≡ receives' + (4096 + n)
      place = omega (arith, laws'.arms_is, laws'.receives_is)

      place_from : mask_place 8 arms n ≡ receives + (4096 + n)
      place_from = omega (arith, laws.arms_is, laws.receives_is)

      go : (t : Bool) → in_table 8 n k ≡ t → t && has (get_or s₄ (mask_place 8 arms' n) 0) k ≡ t && has (get_or from (mask_place 8 arms n) 0) k
      go false t = refl
      go true t = ap (λ x. has x k) (ap (λ i. get_or s₄ i 0) place ∙ byte_shown (4096 + n) (omega (arith, (inside {w = 8} n k t).0)) ∙ ap (λ i. get_or from i 0) (sym place_from))

  -- So both tables show the same,
  pub copied_shown : view s₄ ≡ view from
  unfolding view dimension_at
  copied_shown = λ i.
      record {
        dimension = (from_front 0 (omega (arith, laws'.enable_is)) ∙ front.dimension) i;
        fold = (fold_shown ∙ sym fits.unfolded) i;
        enabled = λ n p. (at ((of_links laws' s₄).enabled_is s₄ l') n p ∙ mask_shown n p ∙ sym (at ((of_links laws from).enabled_is from l) n p)) i;
        owner = λ n p. (at ((of_links laws' s₄).owner_is s₄ l') n p ∙ owner_shown n p ∙ sym (at ((of_links laws from).owner_is from l) n p)) i;
        receiver = λ n k. (at ((of_channels laws' s₄).owner_is s₄ l') n k ∙ receiver_shown n k ∙ sym (at ((of_channels laws from).owner_is from l) n k)) i;
        armed = λ n k. (at ((of_channels laws' s₄).enabled_is s₄ l') n k ∙ armed_shown n k ∙ sym (at ((of_channels laws from).enabled_is from l) n k)) i;
      }

  -- and the bytes are those that show it.
  pub copied_encoded : ((i : ℕ) → get_or s₄ i 0 < 256) → s₄ ≡ encode_over q' (view from)
  copied_encoded small = encode_shown_over q' width' s₄ (view from) record { long = l' ∙ laws'.long_is; small = small } copied_shown
