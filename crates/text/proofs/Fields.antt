-- Numbers written into an output, digit by digit, and the characters of a path.
-- Assumes nothing.
use mathlib.Core.Path.{◌≡◌, refl, ap, ap₂, sym, ◌∙◌}
use mathlib.Core.Logic.{⊎_elim}
use mathlib.Core.List.{List, [], ◌∷◌, ◌++◌, map}
use Prim.Native.Nat.{ℕ, suc, ◌+◌, ◌-◌, ◌/◌, ◌%◌, ◌≤◌, ◌<◌}
use native.Mathlib.Omega.{arith}
use native.Mathlib.Numerals.{add-one}
use lib.ListN.{length, get_or, set, drop, drop_of_length-le}
use lib.Seq.{sets, drop-cons}
use Rattle.common.specs.Lists.{from}
use Rattle.common.proofs.Tests.{below_or}
use Rattle.text.specs.Text.{digit, decimal}
use Rattle.text.specs.Row.{port_character, path_characters}
use Rattle.text.proofs.Writing.{sets_append, set_sets}
use Rattle.text.proofs.Digits.{decimal_short, decimal_long, long_length, decimal_some, decimal_length}

-- a number of 16 bits has at most 5 digits, one of 32 bits at most 10
pub five_digits : (n : ℕ) → n < 65536 → length (decimal n) ≤ 5
five_digits n h = decimal_length 4 n (omega arith)

pub ten_digits : (n : ℕ) → n < 4294967296 → length (decimal n) ≤ 10
ten_digits n h = decimal_length 9 n (omega arith)

-- What holds while the digits of n are written from the back: the digits of m are left, which end at place i, and writing them leaves what writing all of n
-- leaves; or none is left.
pub record Writes (n at : ℕ) (out₀ out : List ℕ) (m i : ℕ) : Type 0 where
  pub some : at < i → (i ≡ at + length (decimal m)) × (sets out at (decimal m) ≡ sets out₀ at (decimal n))
  pub none : i ≤ at → out ≡ sets out₀ at (decimal n)

-- the last digit of what is left is written
pub next_digit : {n at m i d : ℕ} {out₀ out : List ℕ} → Writes n at out₀ out m i → at < i → d ≡ 48 + m % 10 → Writes n at out₀ (set out (i - 1) d) (m / 10) (i - 1)
next_digit {n = n} {at = at} {m = m} {i = i} {d = d} {out₀ = out₀} {out = out} w h e = ⊎_elim last others (below_or 10 m)
  where
    place : i ≡ at + length (decimal m)
    place = (w.some h).0

    last : m < 10 → Writes n at out₀ (set out (i - 1) d) (m / 10) (i - 1)
    last s =
        let one = decimal_short m s in
        let p : i - 1 ≡ at = omega (arith, place, ap length one) in
        let x : d ≡ 48 + m = omega (arith, e) in
        record { some = λ g. absurd (omega (arith, p, g)); none = λ g. ap₂ (set out) p x ∙ ap (sets out at) (sym one) ∙ (w.some h).1 }

    others : 10 ≤ m → Writes n at out₀ (set out (i - 1) d) (m / 10) (i - 1)
    others l =
        let tenth = decimal (m / 10) in
        let p : i - 1 ≡ at + length tenth = omega (arith, place, long_length m l) in
        record {
          some = λ g. (p, sym (set_sets out at (i - 1) d tenth (omega (arith, p))) ∙ ap₂ (set (sets out at tenth)) p e ∙ sym (sets_append out at tenth (digit (m % 10) ∷ [])) ∙ ap (sets out at) (sym (decimal_long m l)) ∙ (w.some h).1);
          none = λ g. absurd (omega (arith, p, g, decimal_some (m / 10)));
        }

-- the ports of a path from place i on
pub turn_step : (path : List ℕ) (i : ℕ) → i < length path → path_characters (drop i path) ≡ (port_character (get_or path i 0) ∷ []) ++ path_characters (drop (i + 1) path)
unfolding path_characters
turn_step path i h = rw (add-one i, drop-cons path i 0 h)

pub turn_end : (path : List ℕ) (i : ℕ) → length path ≤ i → path_characters (drop i path) ≡ []
unfolding path_characters
turn_end path i h = ap path_characters (drop_of_length-le path h)

-- a path has as many characters as ports
pub path_length : (path : List ℕ) → length (path_characters path) ≡ length path
unfolding path_characters
path_length [] = refl
path_length (p ∷ ps) = ap suc (path_length ps)

-- the characters of the ports 0 to 17: 0 to 9, and a to h
pub ports_shown : map port_character (from 0 18) ≡ 48 ∷ 49 ∷ 50 ∷ 51 ∷ 52 ∷ 53 ∷ 54 ∷ 55 ∷ 56 ∷ 57 ∷ 97 ∷ 98 ∷ 99 ∷ 100 ∷ 101 ∷ 102 ∷ 103 ∷ 104 ∷ []
unfolding port_character from
ports_shown = refl
