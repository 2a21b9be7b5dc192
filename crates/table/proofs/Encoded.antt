-- The bytes of a view that has room in them are those of a table, and show it: with `encode_view`, what a table shows and its bytes determine each other.
-- Assumes nothing.
use mathlib.Core.Path.{◌≡◌, refl, ap, ap₂, sym, ◌∙◌, subst}
use mathlib.Core.Logic.{inl, inr, ⊎_elim}
use mathlib.Core.Bool.{Bool, true, false, cond, ◌&&◌}
use mathlib.Core.List.{List, [], ◌∷◌, ◌++◌, append_assoc, append-nil}
use Prim.Native.Nat.{ℕ, zero, suc, ◌+◌, ◌*◌, ◌/◌, ◌%◌, ◌^◌, ◌≤◌, ◌<◌}
use native.Mathlib.Omega.{arith}
use native.Mathlib.Nat.{zero-add}
use lib.Dec.{lit<}
use lib.ListN.{length, get_or, length-append, get_or-append}
use lib.Seq.{get_or-append-add}
use Rattle.cube.specs.Bits.{has}
use Rattle.cube.specs.Cube.{port_count}
use Rattle.layout.specs.Layout.{length_of, in_table, dimension_at, fold_at, mask_size, mask_place, mask_number, mask_at, enable_part, arm_part, enabled_at, armed_at, entry_place, entry_at, link_part, receive_part, owner_at, receiver_at, word_at, entry_count}
use Rattle.layout.specs.Resources.{Width, ResourceLaws, layout_laws, links_laws, channels_laws}
use Rattle.layout.proofs.Entries.{by_width, inside}
use Rattle.entries.specs.EntryContracts.{put_enabled, put_armed, put_owner, put_receiver}
use Rattle.table.specs.View.{View, view}
use Rattle.table.specs.Encode.{bits_from, mask_of, number_bytes, mask_bytes, entry_bytes, fold_bytes, encode_over, encode, BytesOver, Bytes, EntriesFit, ViewFits}
use Rattle.layout.proofs.Folds.{fold_none, fold_wide}
use Rattle.table.proofs.Encode.{bits_at, bits_small, encode_view_over}
use Rattle.table.proofs.Views.{at}

-- k entries from entry i on: their bytes, and entry j of them
entries_length : (w : ℕ) (f : ℕ → ℕ → ℕ) (i k : ℕ) → length (entry_bytes w f i k) ≡ 2 * k
unfolding entry_bytes
entries_length w f i zero = refl
entries_length w f i (suc k) = let ih = entries_length w f (suc i) k in omega arith

entries_word : (w : ℕ) (f : ℕ → ℕ → ℕ) (i k j : ℕ) → j < k → word_at (entry_bytes w f i k) (2 * j) ≡ f ((i + j) / w) ((i + j) % w)
unfolding entry_bytes
entries_word w f i zero j h = absurd (omega arith)
entries_word w f i (suc k) zero h = let e : i + 0 ≡ i = omega arith in rw e (joined (f (i / w) (i % w)))
  where
    joined : (x : ℕ) → x % 256 + 256 * (x / 256) ≡ x
    joined x = omega arith
entries_word w f i (suc k) (suc j) h =
    let low : 2 * suc j ≡ suc (suc (2 * j)) = omega arith in
    let high : suc (suc (2 * j)) + 1 ≡ suc (suc (2 * j + 1)) = omega arith in
    let on : suc i + j ≡ i + suc j = omega arith in
    rw (low, high) (entries_word w f (suc i) k j (omega arith) ∙ ap (λ m. f (m / w) (m % w)) on)

-- a part of entries behind others, as it is read
part_shows : (w : ℕ) → Width w → (f : ℕ → ℕ → ℕ) → EntriesFit w f → (part : ℕ) (front back : List ℕ) → length front ≡ part
    → (n k : ℕ) → entry_at w part (front ++ (entry_bytes w f 0 (entry_count w) ++ back)) n k ≡ f n k
unfolding entry_at
part_shows w width f fit part front back e n k = go (in_table w n k) refl
  where
    all : List ℕ
    all = entry_bytes w f 0 (entry_count w)

    byte : (i : ℕ) → i < 512 * w → get_or (front ++ (all ++ back)) (part + i) 0 ≡ get_or all i 0
    byte i h =
        let place : part + i ≡ length front + i = omega (arith, e) in
        ap (λ j. get_or (front ++ (all ++ back)) j 0) place ∙ get_or-append-add front (all ++ back) i 0
        ∙ get_or-append all back 0 i (omega (arith, entries_length w f 0 (entry_count w)))

    shown : (i : ℕ) → i < 256 * w → i / w ≡ n → i % w ≡ k → entry_place w part n k ≡ part + 2 * i → word_at (front ++ (all ++ back)) (entry_place w part n k) ≡ f n k
    shown i h node column place =
        let after : part + 2 * i + 1 ≡ part + (2 * i + 1) = omega arith in
        rw (place, after) (ap₂ (λ x y. x + 256 * y) (byte (2 * i) (omega arith)) (byte (2 * i + 1) (omega arith)) ∙ entries_word w f 0 (entry_count w) i h ∙ ap (λ m. f (m / w) (m % w)) (zero-add i) ∙ ap₂ f node column)

    go : (x : Bool) → in_table w n k ≡ x → cond x (word_at (front ++ (all ++ back)) (entry_place w part n k)) 0 ≡ f n k
    go true t =
        let r = inside {w = w} n k t in
        by_width (λ v. v ≡ w → k < v → word_at (front ++ (all ++ back)) (entry_place w part n k) ≡ f n k) w width
        (λ g l. shown (8 * n + k) (omega (arith, g, r.0, l)) (rw (← g) (omega arith)) (rw (← g) (omega arith)) (rw (← g) (omega arith)))
        (λ g l. shown (18 * n + k) (omega (arith, g, r.0, l)) (rw (← g) (omega arith)) (rw (← g) (omega arith)) (rw (← g) (omega arith)))
        refl r.1
    go false t = sym (fit.outside n k t)

-- the bytes of a number, and what they make again
number_length : (w : ℕ) → Width w → (x : ℕ) → length (number_bytes w x) ≡ mask_size w
unfolding number_bytes
number_length w (inl e) x = rw e refl
number_length w (inr e) x = rw e refl

number_shows : (w : ℕ) → Width w → (x : ℕ) (back : List ℕ) → mask_number w (number_bytes w x ++ back) 0 ≡ x
unfolding number_bytes mask_number
number_shows w (inl e) x back = rw e refl
number_shows w (inr e) x back = rw e (omega arith)

-- a mask read at a place behind others
number_behind : (w : ℕ) → Width w → (front back : List ℕ) (i : ℕ) → mask_number w (front ++ back) (length front + i) ≡ mask_number w back i
unfolding mask_number
number_behind w (inl e) front back i = rw e (get_or-append-add front back i 0)
number_behind w (inr e) front back i =
    let one : length front + i + 1 ≡ length front + (i + 1) = omega arith in
    let two : length front + i + 2 ≡ length front + (i + 2) = omega arith in
    rw (e, one, two, get_or-append-add front back i 0, get_or-append-add front back (i + 1) 0, get_or-append-add front back (i + 2) 0) refl

-- a part of masks behind others, as it is read
masks_length : (w : ℕ) → Width w → (f : ℕ → ℕ → Bool) (n k : ℕ) → length (mask_bytes w f n k) ≡ mask_size w * k
unfolding mask_bytes
masks_length w width f n zero = omega arith
masks_length w width f n (suc k) = length-append (number_bytes w (mask_of w f n)) (mask_bytes w f (suc n) k) ∙ ap₂ ◌+◌ (number_length w width (mask_of w f n)) (masks_length w width f (suc n) k) ∙ more width
  where
    more : Width w → mask_size w + mask_size w * k ≡ mask_size w * suc k
    more (inl e) = rw e (omega arith)
    more (inr e) = rw e (omega arith)

masks_number : (w : ℕ) → Width w → (f : ℕ → ℕ → Bool) (s k : ℕ) (back : List ℕ) (j : ℕ) → j < k → mask_number w (mask_bytes w f s k ++ back) (mask_size w * j) ≡ mask_of w f (s + j)
unfolding mask_bytes
masks_number w width f s zero back j h = absurd (omega arith)
masks_number w width f s (suc k) back zero h =
    let e : s + 0 ≡ s = omega arith in
    let z : mask_size w * 0 ≡ 0 = omega arith in
    rw (z, e) (ap (λ ys. mask_number w ys 0) (append_assoc (number_bytes w (mask_of w f s)) (mask_bytes w f (suc s) k) back) ∙ number_shows w width (mask_of w f s) (mask_bytes w f (suc s) k ++ back))
masks_number w width f s (suc k) back (suc j) h =
    let e : suc s + j ≡ s + suc j = omega arith in
    ap (λ ys. mask_number w ys (mask_size w * suc j)) (append_assoc (number_bytes w (mask_of w f s)) (mask_bytes w f (suc s) k) back)
    ∙ ap (mask_number w (number_bytes w (mask_of w f s) ++ (mask_bytes w f (suc s) k ++ back))) (on width)
    ∙ number_behind w width (number_bytes w (mask_of w f s)) (mask_bytes w f (suc s) k ++ back) (mask_size w * j) ∙ masks_number w width f (suc s) k back j (omega arith) ∙ ap (mask_of w f) e
  where
    on : Width w → mask_size w * suc j ≡ length (number_bytes w (mask_of w f s)) + mask_size w * j
    on (inl e) = omega (arith, number_length w width (mask_of w f s), by_width (λ w. mask_size w * suc j ≡ mask_size w + mask_size w * j) w width (omega arith) (omega arith))
    on (inr e) = omega (arith, number_length w width (mask_of w f s), by_width (λ w. mask_size w * suc j ≡ mask_size w + mask_size w * j) w width (omega arith) (omega arith))

masks_show : (w : ℕ) → Width w → (f : ℕ → ℕ → Bool) → ((n k : ℕ) → in_table (8 * mask_size w) n k ≡ false → f n k ≡ false) → (part : ℕ) (front back : List ℕ) → length front ≡ part
    → (n k : ℕ) → mask_at w part (front ++ (mask_bytes w f 0 256 ++ back)) n k ≡ f n k
unfolding mask_at
masks_show w width f outside part front back e n k = go (in_table (8 * mask_size w) n k) refl
  where
    number : n < 256 → mask_number w (front ++ (mask_bytes w f 0 256 ++ back)) (mask_place w part n) ≡ bits_from (f n) 0 (8 * mask_size w)
    number h =
        ap (λ i. mask_number w (front ++ (mask_bytes w f 0 256 ++ back)) (i + mask_size w * n)) (sym e)
        ∙ number_behind w width front (mask_bytes w f 0 256 ++ back) (mask_size w * n)
        ∙ masks_number w width f 0 256 back n h ∙ (unfold mask_of in ap (λ m. bits_from (f m) 0 (8 * mask_size w)) (zero-add n))

    go : (x : Bool) → in_table (8 * mask_size w) n k ≡ x → x && has (mask_number w (front ++ (mask_bytes w f 0 256 ++ back)) (mask_place w part n)) k ≡ f n k
    go true t = let r = inside {w = 8 * mask_size w} n k t in ap (λ x. has x k) (number r.0) ∙ bits_at (f n) 0 (8 * mask_size w) k (omega arith) (omega (arith, r.1))
    go false t = sym (outside n k t)

-- every number of a list is a byte
abbrev Small : List ℕ → Type 0
Small b = (i : ℕ) → get_or b i 0 < 256

append_small : (xs ys : List ℕ) → Small xs → Small ys → Small (xs ++ ys)
append_small [] ys h l i = l i
append_small (x ∷ xs) ys h l zero = h zero
append_small (x ∷ xs) ys h l (suc i) = append_small xs ys (λ j. h (suc j)) l i

number_small : (w : ℕ) → Width w → (x : ℕ) → x < 2 ^ (8 * mask_size w) → Small (number_bytes w x)
unfolding number_bytes
number_small w (inl e) x h = rw e (λ i. first i)
  where
    first : (i : ℕ) → get_or (x ∷ []) i 0 < 256
    first zero = by_eight (subst (λ w. x < 2 ^ (8 * mask_size w)) e h)
      where
        by_eight : x < 256 → x < 256
        by_eight l = l
    first (suc i) = lit< tt
number_small w (inr e) x h = rw e (λ i. each i)
  where
    fits : x < 16777216
    fits = subst (λ w. x < 2 ^ (8 * mask_size w)) e h

    each : (i : ℕ) → get_or (x % 256 ∷ x / 256 % 256 ∷ x / 65536 ∷ []) i 0 < 256
    each zero = omega arith
    each (suc zero) = omega arith
    each (suc (suc zero)) = omega (arith, fits)
    each (suc (suc (suc i))) = lit< tt

masks_small : (w : ℕ) → Width w → (f : ℕ → ℕ → Bool) (n k : ℕ) → Small (mask_bytes w f n k)
unfolding mask_bytes
masks_small w width f n zero = λ i. lit< tt
masks_small w width f n (suc k) =
    append_small (number_bytes w (mask_of w f n)) (mask_bytes w f (suc n) k)
    (number_small w width (mask_of w f n) (unfold mask_of in bits_small (8 * mask_size w) (f n) 0 (8 * mask_size w) (omega arith))) (masks_small w width f (suc n) k)

entries_small : (w : ℕ) (f : ℕ → ℕ → ℕ) → EntriesFit w f → (i k : ℕ) → Small (entry_bytes w f i k)
unfolding entry_bytes
entries_small w f h i zero j = lit< tt
entries_small w f h i (suc k) zero = low (f (i / w) (i % w))
  where
    low : (x : ℕ) → x % 256 < 256
    low x = omega arith
entries_small w f h i (suc k) (suc zero) = high (f (i / w) (i % w)) (h.small (i / w) (i % w))
  where
    high : (x : ℕ) → x < 65536 → x / 256 < 256
    high x l = omega arith
entries_small w f h i (suc k) (suc (suc j)) = entries_small w f h (suc i) k j

fold_length : (q : ℕ) → Width q → (x : ℕ) → length (fold_bytes q x) ≡ q / 18
unfolding fold_bytes
fold_length q (inl e) x = rw e refl
fold_length q (inr e) x = rw e refl

fold_small : (q : ℕ) → Width q → (x : ℕ) → x < 256 → Small (fold_bytes q x)
unfolding fold_bytes
fold_small q (inl e) x h = rw e (λ i. lit< tt)
fold_small q (inr e) x h = rw e (λ i. one i)
  where
    one : (i : ℕ) → get_or (x ∷ []) i 0 < 256
    one zero = h
    one (suc i) = lit< tt

module _ (q : ℕ) (width : Width q) (v : View) (fit : ViewFits q v) where
  abbrev folded : List ℕ
  folded = fold_bytes q v.fold

  abbrev enables : List ℕ
  enables = mask_bytes q v.enabled 0 256

  abbrev links : List ℕ
  links = entry_bytes q v.owner 0 (entry_count q)

  abbrev receives : List ℕ
  receives = entry_bytes 8 v.receiver 0 (entry_count 8)

  abbrev arms : List ℕ
  arms = mask_bytes 8 v.armed 0 256

  folded_end : suc (length folded) ≡ enable_part q
  folded_end = omega (arith, fold_length q width v.fold)

  enables_end : suc (length (folded ++ enables)) ≡ link_part q
  enables_end = ap suc (length-append folded enables) ∙ omega (arith, folded_end, masks_length q width v.enabled 0 256)

  links_end : suc (length ((folded ++ enables) ++ links)) ≡ receive_part q
  links_end = ap suc (length-append (folded ++ enables) links) ∙ omega (arith, enables_end, entries_length q v.owner 0 (entry_count q))

  receives_end : suc (length (((folded ++ enables) ++ links) ++ receives)) ≡ arm_part q
  receives_end = ap suc (length-append ((folded ++ enables) ++ links) receives) ∙ omega (arith, links_end, entries_length 8 v.receiver 0 (entry_count 8))

  all_end : length (encode_over q v) ≡ length_of q
  unfolding encode_over
  all_end = ap suc (length-append (((folded ++ enables) ++ links) ++ receives) arms) ∙ omega (arith, receives_end, masks_length 8 (inl refl) v.armed 0 256)

  pub encode_bytes_over : BytesOver q (encode_over q v)
  unfolding encode_over
  encode_bytes_over =
      record {
        long = all_end;
        small =
            append_small (v.dimension ∷ []) ((((folded ++ enables) ++ links) ++ receives) ++ arms) first
            (append_small (((folded ++ enables) ++ links) ++ receives) arms
            (append_small ((folded ++ enables) ++ links) receives
            (append_small (folded ++ enables) links
            (append_small folded enables (fold_small q width v.fold fit.fold) (masks_small q width v.enabled 0 256))
            (entries_small q v.owner fit.owner 0 (entry_count q)))
            (entries_small 8 v.receiver fit.receiver 0 (entry_count 8)))
            (masks_small 8 (inl refl) v.armed 0 256));
      }
    where
      first : Small (v.dimension ∷ [])
      first zero = fit.dimension
      first (suc i) = lit< tt

  abbrev behind_receives : List ℕ
  behind_receives = receives ++ arms

  after_receives : (((folded ++ enables) ++ links) ++ receives) ++ arms ≡ ((folded ++ enables) ++ links) ++ (receives ++ arms)
  after_receives = append_assoc ((folded ++ enables) ++ links) receives arms

  after_links : (((folded ++ enables) ++ links) ++ receives) ++ arms ≡ (folded ++ enables) ++ (links ++ (receives ++ arms))
  after_links = after_receives ∙ append_assoc (folded ++ enables) links (receives ++ arms)

  after_enables : (((folded ++ enables) ++ links) ++ receives) ++ arms ≡ folded ++ (enables ++ (links ++ (receives ++ arms)))
  after_enables = after_links ∙ append_assoc folded enables (links ++ (receives ++ arms))

  fold_shows : fold_at (encode_over q v) ≡ v.fold
  fold_shows = go width
    where
      go : Width q → fold_at (encode_over q v) ≡ v.fold
      go (inl e) = fold_none (encode_over q v) (all_end ∙ ap length_of e) ∙ sym (fit.unfolded e)
      go (inr e) = fold_wide (encode_over q v) (all_end ∙ ap length_of e) ∙ (unfold encode_over in ap (λ ys. get_or (v.dimension ∷ ys) 1 0) after_enables ∙ first e)
        where
          first : q ≡ 18 → get_or (v.dimension ∷ (fold_bytes q v.fold ++ (enables ++ (links ++ (receives ++ arms))))) 1 0 ≡ v.fold
          first e = unfold fold_bytes in rw e refl

  -- What `encode` writes shows what it was given.
  pub view_encode_over : view (encode_over q v) ≡ v
  unfolding view dimension_at encode_over
  view_encode_over = λ i.
      record {
        dimension = v.dimension;
        fold = fold_shows i;
        enabled = λ n p.
            (at (of_links.enabled_is _ all_end) n p ∙ ap (λ b. mask_at q (enable_part q) (v.dimension ∷ b) n p) after_enables
            ∙ masks_show q width v.enabled fit.enabled (enable_part q) (v.dimension ∷ folded) (links ++ (receives ++ arms)) folded_end n p) i;
        owner = λ n p.
            (at (of_links.owner_is _ all_end) n p ∙ ap (λ b. entry_at q (link_part q) (v.dimension ∷ b) n p) after_links
            ∙ part_shows q width v.owner fit.owner (link_part q) (v.dimension ∷ (folded ++ enables)) (receives ++ arms) enables_end n p) i;
        receiver = λ n k.
            (at (of_channels.owner_is _ all_end) n k ∙ ap (λ b. entry_at 8 (receive_part q) (v.dimension ∷ b) n k) after_receives
            ∙ part_shows 8 (inl refl) v.receiver fit.receiver (receive_part q) (v.dimension ∷ ((folded ++ enables) ++ links)) arms links_end n k) i;
        armed = λ n k.
            (at (of_channels.enabled_is _ all_end) n k ∙ ap (λ b. mask_at 8 (arm_part q) (v.dimension ∷ ((((folded ++ enables) ++ links) ++ receives) ++ b)) n k) (sym (append-nil arms))
            ∙ masks_show 8 (inl refl) v.armed fit.armed (arm_part q) (v.dimension ∷ (((folded ++ enables) ++ links) ++ receives)) [] receives_end n k) i;
      }
    where
      of_links : ResourceLaws (length_of q) q (enable_part q) (link_part q) enabled_at owner_at put_enabled put_owner
      of_links = links_laws (layout_laws q width)

      of_channels : ResourceLaws (length_of q) 8 (arm_part q) (receive_part q) armed_at receiver_at put_armed put_receiver
      of_channels = channels_laws (layout_laws q width)

-- Bytes of a table that show a view are those that `encode` writes of it.
pub encode_shown_over : (q : ℕ) → Width q → (b : List ℕ) (v : View) → BytesOver q b → view b ≡ v → b ≡ encode_over q v
encode_shown_over q width b v bytes e = sym (encode_view_over q width b bytes.long bytes.small) ∙ ap (encode_over q) e

-- of a narrow table
pub encode_bytes : (v : View) → ViewFits port_count v → Bytes (encode v)
encode_bytes v fit = encode_bytes_over port_count (inl refl) v fit

pub view_encode : (v : View) → ViewFits port_count v → view (encode v) ≡ v
view_encode v fit = view_encode_over port_count (inl refl) v fit

pub encode_shown : (b : List ℕ) (v : View) → Bytes b → view b ≡ v → b ≡ encode v
encode_shown b v bytes e = encode_shown_over port_count (inl refl) b v bytes e
