-- Texts that have no separator in them: cut at the separators, what they are joined to is these texts again.
-- Assumes nothing.
use mathlib.Core.Path.{◌≡◌, refl, ap, ◌∙◌}
use mathlib.Core.Bool.{Bool, true, false, cond}
use mathlib.Core.List.{List, [], ◌∷◌, ◌++◌, append_assoc}
use Prim.Native.Nat.{ℕ, zero, suc, ◌+◌, ◌-◌, ◌/◌, ◌%◌, ◌≤◌, ◌<◌}
use native.Mathlib.Omega.{arith}
use lib.Dec.{ltb, lit<, lit≤}
use borrow.Author.Tests.{eq-eqb, ne_eqb}
use Rattle.text.specs.Text.{newline, space, dash, digit, digits, decimal}
use Rattle.text.specs.Lines.{on_first, cut, lines, fields}
use Rattle.text.specs.Row.{port_character, path_characters, spaced, ended}
use Rattle.text.specs.Above.{Above, AllAbove}

-- texts above a byte
above_append : (b : ℕ) (xs ys : List ℕ) → Above b xs → Above b ys → Above b (xs ++ ys)
unfolding Above
above_append b [] ys p q = q
above_append b (x ∷ xs) ys p q = (p.0, above_append b xs ys p.1 q)

above_less : (b c : ℕ) (xs : List ℕ) → c ≤ b → Above b xs → Above c xs
unfolding Above
above_less b c [] h p = tt
above_less b c (x ∷ xs) h p = ((let l = p.0 in omega arith), above_less b c xs h p.1)

-- a separator stands behind a text that has none
cut_at : (d b : ℕ) (end : List (List ℕ)) (xs ys : List ℕ) → d ≤ b → Above b xs → cut d end (xs ++ d ∷ ys) ≡ xs ∷ cut d end ys
unfolding cut Above
cut_at d b end [] ys h p = rw (eq-eqb d d refl)
cut_at d b end (x ∷ xs) ys h p = let l = p.0 in rw (ne_eqb x d (λ e. omega arith), cut_at d b end xs ys h p.1) front
  where
    front : on_first x (xs ∷ cut d end ys) ≡ (x ∷ xs) ∷ cut d end ys
    front = unfold on_first in refl

fields_one : (xs : List ℕ) → Above space xs → fields xs ≡ xs ∷ []
unfolding fields cut Above
fields_one [] p = refl
fields_one (x ∷ xs) p = let l = p.0 in rw (ne_eqb x space (λ e. omega arith), fields_one xs p.1) front
  where
    front : on_first x (xs ∷ []) ≡ (x ∷ xs) ∷ []
    front = unfold on_first in refl

pub fields_spaced : (f : List ℕ) (fs : List (List ℕ)) → AllAbove space (f ∷ fs) → fields (spaced (f ∷ fs)) ≡ f ∷ fs
unfolding AllAbove spaced fields
fields_spaced f [] p = fields_one f p.0
fields_spaced f (g ∷ fs) p = cut_at space space ([] ∷ []) f (spaced (g ∷ fs)) (omega arith) p.0 ∙ ap (f ∷◌) (fields_spaced g fs p.1)

above_spaced : (fs : List (List ℕ)) → AllAbove space fs → Above 31 (spaced fs)
unfolding AllAbove Above spaced
above_spaced [] p = tt
above_spaced (f ∷ []) p = above_less space 31 f (lit≤ tt) p.0
above_spaced (f ∷ g ∷ fs) p =
    above_append 31 f (space ∷ spaced (g ∷ fs)) (above_less space 31 f (lit≤ tt) p.0) (lit< tt, above_spaced (g ∷ fs) p.1)

-- the bytes of a field are digits, a dash, a call letter or the characters of ports
above_digits : (k n : ℕ) → Above space (digits k n)
unfolding digits Above
above_digits zero n = (omega arith, tt)
above_digits (suc k) n = go (ltb n 10) (above_digits k (n / 10))
  where
    go : (b : Bool) → Above space (digits k (n / 10))
        → Above space (cond b (digit n ∷ []) (digits k (n / 10) ++ (digit (n % 10) ∷ [])))
    go true p = (omega arith, tt)
    go false p = above_append space (digits k (n / 10)) (digit (n % 10) ∷ []) p (omega arith, tt)

pub above_decimal : (n : ℕ) → Above space (decimal n)
unfolding decimal
above_decimal n = above_digits n n

above_port : (p : ℕ) → space < port_character p
unfolding port_character
above_port p = go (ltb p 10) (ltb p 18)
  where
    go : (b c : Bool) → space < cond b (digit p) (cond c (97 + (p - 10)) dash)
    go true c = omega arith
    go false true = omega arith
    go false false = lit< tt

pub above_path : (ps : List ℕ) → Above space (path_characters ps)
unfolding path_characters Above
above_path [] = tt
above_path (p ∷ ps) = (above_port p, above_path ps)

-- such texts with one space between and a newline behind are one line
pub ended_line : (fs : List (List ℕ)) (rest : List ℕ) → AllAbove space fs → lines (ended fs ++ rest) ≡ spaced fs ∷ lines rest
unfolding ended lines
ended_line fs rest p =
    ap (cut newline []) (append_assoc (spaced fs) (newline ∷ []) rest) ∙ cut_at newline 31 [] (spaced fs) rest (lit≤ tt) (above_spaced fs p)
