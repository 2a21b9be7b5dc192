-- Texts written one behind the other.
-- Assumes nothing.
use mathlib.Core.Path.{◌≡◌, refl, ap, sym, ◌∙◌}
use mathlib.Core.List.{List, [], ◌∷◌, ◌++◌, append_assoc}
use Prim.Native.Nat.{ℕ, suc, ◌+◌, ◌≤◌}
use native.Mathlib.Nat.{add-zero}
use native.Mathlib.Omega.{arith}
use lib.ListN.{length, take, drop, set, length-append}
use lib.Seq.{sets, sets-eq, set_comm, drop-drop}
use borrow.Rule.Slice.PartMut.{put_mid}
use Rattle.text.specs.Written.{Wrote}

-- two texts, the second behind the first, are one
pub sets_append : (b : List ℕ) (i : ℕ) (xs ys : List ℕ) → sets b i (xs ++ ys) ≡ sets (sets b i xs) (i + length xs) ys
sets_append b i [] ys = ap (λ j. sets b j ys) (sym (add-zero i))
sets_append b i (x ∷ xs) ys =
    let e : suc i + length xs ≡ i + suc (length xs) = omega arith in
    sets_append (set b i x) (suc i) xs ys ∙ ap (λ j. sets (sets (set b i x) (suc i) xs) j ys) e

-- a byte behind a text may be written before it
pub set_sets : (b : List ℕ) (i j d : ℕ) (xs : List ℕ) → i + length xs ≤ j → set (sets b i xs) j d ≡ sets (set b j d) i xs
set_sets b i j d [] h = refl
set_sets b i j d (x ∷ xs) h = set_sets (set b i x) (suc i) j d xs (omega arith) ∙ ap (λ (l : List ℕ). sets l (suc i) xs) (set_comm b i j x d (λ e. omega (arith, e)))

-- what is left to write behind a text that was written
pub carries : (ys : List ℕ) {i j : ℕ} {b c xs : List ℕ} → Wrote b i xs c j → sets c j ys ≡ sets b i (xs ++ ys)
carries ys {i = i} {j = j} {b = b} {xs = xs} u = ap (λ (l : List ℕ). sets l j ys) u.bytes ∙ ap (λ p. sets (sets b i xs) p ys) u.place ∙ sym (sets_append b i xs ys)

pub carries_place : (ys : List ℕ) {i j : ℕ} {b c xs : List ℕ} → Wrote b i xs c j → j + length ys ≡ i + length (xs ++ ys)
carries_place ys {xs = xs} u = let e = length-append xs ys in let p = u.place in omega arith

infixl 30 ◌then◌
-- a text, and another behind it
pub ◌then◌ : {i j n : ℕ} {b c d xs ys : List ℕ} → Wrote b i xs c j → Wrote c j ys d n → Wrote b i (xs ++ ys) d n
◌then◌ {ys = ys} u v = record { bytes = v.bytes ∙ carries ys u; place = v.place ∙ carries_place ys u }

-- the same bytes under another name
pub retext : {i j : ℕ} {b c xs ys : List ℕ} → xs ≡ ys → Wrote b i xs c j → Wrote b i ys c j
retext e w = rw e at w

-- a part of an output that a text was copied into: k is how long the part is
pub wrote_part : (b text : List ℕ) {at k j : ℕ} {new : List ℕ} → at + length text ≤ length b → k ≡ length text → new ≡ text → j ≡ at + length text
    → Wrote b at text (put_mid at k b new) j
wrote_part b text {at = at} fits long same place =
    record {
      bytes = rw (long, same, drop-drop (length text) at b) (sym (append_assoc (take at b) text (drop (at + length text) b)) ∙ sym (sets-eq text b at fits));
      place = place;
    }

-- What holds while a text is written one part behind the other: writing what is left, from place j on, leaves what writing all of it would.
pub record Left (b : List ℕ) (i : ℕ) (text now : List ℕ) (j : ℕ) (rest : List ℕ) : Type 0 where
  pub bytes : sets now j rest ≡ sets b i text
  pub place : j + length rest ≡ i + length text
  pub long : length now ≡ length b

-- nothing was written yet; a part was; and all was
pub left_all : (b : List ℕ) (i : ℕ) (text : List ℕ) → Left b i text b i text
left_all b i text = record { bytes = refl; place = refl; long = refl }

pub left_more : {b text now now' rest part : List ℕ} {i j j' : ℕ} (more : List ℕ) → Left b i text now j rest → rest ≡ part ++ more → length now' ≡ length now
    → Wrote now j part now' j' → Left b i text now' j' more
left_more {now = now} {j = j} more l e same w =
    record {
      bytes = carries more w ∙ ap (sets now j) (sym e) ∙ l.bytes;
      place = carries_place more w ∙ ap (λ (xs : List ℕ). j + length xs) (sym e) ∙ l.place;
      long = same ∙ l.long;
    }

pub left_none : {b text now rest : List ℕ} {i j : ℕ} → Left b i text now j rest → rest ≡ [] → Wrote b i text now j
left_none {now = now} {j = j} l e =
    let n = ap length e in
    record { bytes = sym (ap (sets now j) e) ∙ l.bytes; place = omega (arith, l.place) }
