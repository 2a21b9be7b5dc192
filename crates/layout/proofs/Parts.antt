-- A part of some bytes written over by others: what each byte is then.
-- Assumes nothing.
use mathlib.Core.Path.{◌≡◌, ap, ◌∙◌}
use mathlib.Core.List.{List, ◌++◌}
use Prim.Native.Nat.{ℕ, ◌+◌, ◌-◌, ◌≤◌, ◌<◌}
use native.Mathlib.Omega.{arith}
use lib.ListN.{length, take, drop, get_or, get_or-append}
use lib.Seq.{get_or-append-add}
use Rattle.std.proofs.lemmas.List.{get_or-take, get_or-drop, length-drop, length-take-le}
use borrow.Rule.Slice.PartMut.{put_mid}
use Rattle.layout.specs.LayoutContracts.{SameOutside}

-- how long a part is that lies in some bytes
pub part_long : (b : List ℕ) (at k : ℕ) → at + k ≤ length b → length (take k (drop at b)) ≡ k
part_long b at k h = length-take-le k (drop at b) (rw length-drop (omega arith))

module _ (a k : ℕ) (xs ys : List ℕ) (here : a ≤ length xs) where
  front : length (take a xs) ≡ a
  front = length-take-le a xs here

  pub part_before : (j : ℕ) → j < a → get_or (put_mid a k xs ys) j 0 ≡ get_or xs j 0
  part_before j h = get_or-append (take a xs) (ys ++ drop k (drop a xs)) 0 j (rw front h) ∙ get_or-take a xs j 0 h

  part_from : (j : ℕ) → get_or (put_mid a k xs ys) (a + j) 0 ≡ get_or (ys ++ drop k (drop a xs)) j 0
  part_from j =
      let place : a + j ≡ length (take a xs) + j = omega (arith, front) in
      ap (λ i. get_or (put_mid a k xs ys) i 0) place ∙ get_or-append-add (take a xs) (ys ++ drop k (drop a xs)) j 0

  pub part_at : (j : ℕ) → j < length ys → get_or (put_mid a k xs ys) (a + j) 0 ≡ get_or ys j 0
  part_at j h = part_from j ∙ get_or-append ys (drop k (drop a xs)) 0 j h

  pub part_behind : length ys ≡ k → (j : ℕ) → a + k ≤ j → get_or (put_mid a k xs ys) j 0 ≡ get_or xs j 0
  part_behind long j h =
      let place : j ≡ a + (length ys + (j - (a + k))) = omega arith in
      let same : a + (k + (j - (a + k))) ≡ j = omega arith in
      ap (λ i. get_or (put_mid a k xs ys) i 0) place ∙ part_from (length ys + (j - (a + k))) ∙ get_or-append-add ys (drop k (drop a xs)) (j - (a + k)) 0
      ∙ get_or-drop k (drop a xs) (j - (a + k)) 0 ∙ get_or-drop a xs (k + (j - (a + k))) 0 ∙ ap (λ i. get_or xs i 0) same

  pub part_others : (start end : ℕ) → start ≡ a → end ≡ a + k → length ys ≡ k → SameOutside start end xs (put_mid a k xs ys)
  part_others start end e f long = record { before = λ j h. part_before j (omega arith); behind = λ j h. part_behind long j (omega arith) }
