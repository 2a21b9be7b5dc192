-- The or of some masks, and what it says of them.
-- Assumes nothing.
use mathlib.Core.Path.{◌≡◌, refl, ap, sym, ◌∙◌}
use mathlib.Core.Logic.{⊎_elim}
use mathlib.Core.List.{List}
use Prim.Native.Nat.{ℕ, ◌+◌, ◌-◌, ◌≤◌}
use native.Mathlib.Omega.{arith}
use lib.ListN.{length, take, drop}
use lib.Bits.{bit_or}
use Rattle.common.proofs.Tests.{same?, or_left, or_right}
use Rattle.cube.specs.Bits.{has}
use Rattle.cube.proofs.Bits.{has_or, zero_has}
use Rattle.layout.specs.Layout.{mask_place, mask_number}
use Rattle.layout.specs.LayoutContracts.{RunOr, MasksOr}
use Rattle.layout.proofs.Runs.{run_joined, run_clear}

-- more masks joined to what was found
pub or_none : (w part : ℕ) (b : List ℕ) (from : ℕ) → MasksOr w part b from from 0
or_none w part b from = record { joined = λ n p l h. absurd (omega arith); clear = λ p z. zero_has p }

pub or_more : (w part : ℕ) (b : List ℕ) (from n all x : ℕ) → MasksOr w part b from n all → from ≤ n → x ≡ mask_number w b (mask_place w part n) → MasksOr w part b from (n + 1) (bit_or all x)
or_more w part b from n all x g f e =
    record {
      joined = λ m p l h t. has_or all x p
          ∙ ⊎_elim (λ (z : m ≡ n). or_right (has all p) (ap (λ y. has y p) (e ∙ ap (λ y. mask_number w b (mask_place w part y)) (sym z)) ∙ t))
          (λ z. or_left (has x p) (g.joined m p l (omega arith) t)) (same? m n);
      clear = λ p z. has_or all x p ∙ rw (g.clear p (λ m l h. z m l (omega arith)), ap (λ y. has y p) e ∙ z n f (omega arith)) refl;
    }

-- masks of one byte: the or of their bytes
pub or_run : (part : ℕ) (b : List ℕ) (from to i k : ℕ) {all : ℕ} → i ≡ part + from → k ≡ to - from → from ≤ to → i + k ≤ length b → RunOr (take k (drop i b)) all → MasksOr 8 part b from to all
unfolding mask_number
or_run part b from to i k {all} at count order room run =
    record {
      joined = λ n p l h t. run_joined b i k run room (n - from) p (omega arith) (rw (place n l) t);
      clear = λ p z. run_clear b i k run room p (λ j l. let on : i + j ≡ mask_place 8 part (from + j) = omega arith in rw on (z (from + j) (omega arith) (omega arith)));
    }
  where
    place : (n : ℕ) → from ≤ n → i + (n - from) ≡ mask_place 8 part n
    place n l = omega arith
