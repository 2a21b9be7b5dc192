-- Laws of the parts that a byte leaves of a text.
-- Assumes nothing.
use mathlib.Core.Path.{◌≡◌, refl, ap, sym, ◌∙◌}
use mathlib.Core.Logic.{◌≢◌}
use mathlib.Core.Bool.{Bool, true, false, cond}
use mathlib.Core.List.{List, [], ◌∷◌, ◌++◌}
use Prim.Native.Nat.{ℕ, zero, suc, ◌+◌, ◌-◌, ◌≤◌, ◌<◌}
use native.Mathlib.Omega.{arith}
use lib.Dec.{eqb}
use lib.ListN.{length, get_or, take}
use lib.Seq.{take_all}
use Rattle.std.proofs.lemmas.List.{take_more}
use borrow.Author.Tests.{ne_eqb}
use Rattle.std.specs.List.{slice_split, onto_first}
use Rattle.text.specs.Text.{newline, space}
use Rattle.text.specs.Lines.{on_first, cut, lines, fields}

-- one byte more in front of some parts
same_parts : (d x : ℕ) (ls : List (List ℕ)) → cond (eqb x d) ([] ∷ ls) (on_first x ls) ≡ cond (eqb x d) ([] ∷ ls) (onto_first x ls)
unfolding on_first
same_parts d x ls = go (eqb x d) ls
  where
    go : (b : Bool) (fs : List (List ℕ)) → cond b ([] ∷ fs) (on_first x fs) ≡ cond b ([] ∷ fs) (onto_first x fs)
    go true fs = refl
    go false [] = refl
    go false (f ∷ fs) = refl

-- The fields of a text are the parts that std's `split` gives.
pub fields_split : (xs : List ℕ) → fields xs ≡ slice_split (λ b. eqb b space) xs
unfolding fields cut
fields_split [] = refl
fields_split (x ∷ xs) = rw (fields_split xs) (same_parts space x (slice_split (λ b. eqb b space) xs))

-- The lines of a text that ends in another byte are the parts that std's `split` gives, and so are those of a text with a newline behind it: it ends
-- the last line.
lines_last_byte : (xs : List ℕ) (m : ℕ) → length xs ≡ suc m → get_or xs m 0 ≢ newline → lines xs ≡ slice_split (λ b. eqb b newline) xs
unfolding lines cut on_first
lines_last_byte [] m h e = absurd (omega arith)
lines_last_byte (x ∷ []) zero h e = rw (ne_eqb x newline e) refl
lines_last_byte (x ∷ []) (suc m) h e = absurd (omega arith)
lines_last_byte (x ∷ y ∷ xs) zero h e = absurd (omega arith)
lines_last_byte (x ∷ y ∷ xs) (suc m) h e = rw (lines_last_byte (y ∷ xs) m (omega arith) e) (same_parts newline x (slice_split (λ b. eqb b newline) (y ∷ xs)))

pub lines_split : (xs : List ℕ) → 0 < length xs → get_or xs (length xs - 1) 0 ≢ newline → lines xs ≡ slice_split (λ b. eqb b newline) xs
lines_split xs h e = lines_last_byte xs (length xs - 1) (omega arith) e

pub lines_ended : (xs : List ℕ) → lines (xs ++ newline ∷ []) ≡ slice_split (λ b. eqb b newline) xs
unfolding lines cut
lines_ended [] = refl
lines_ended (x ∷ xs) = rw (lines_ended xs) (same_parts newline x (slice_split (λ b. eqb b newline) xs))

-- the same of the part of a text in front of its last byte, a newline
pub lines_part : (xs : List ℕ) → 1 ≤ length xs → get_or xs (length xs - 1) 0 ≡ newline → lines xs ≡ slice_split (λ b. eqb b newline) (take (length xs - 1) xs)
lines_part xs h e =
    let n : (length xs - 1) + 1 ≡ length xs = omega arith in
    let last : xs ≡ take (length xs - 1) xs ++ newline ∷ [] =
    sym (take_all (length xs) xs (omega arith)) ∙ ap (λ m. take m xs) (sym n) ∙ take_more xs (length xs - 1) 0 (omega arith) ∙ ap (λ x. take (length xs - 1) xs ++ x ∷ []) e in
    ap lines last ∙ lines_ended (take (length xs - 1) xs)
