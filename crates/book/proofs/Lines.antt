-- The lines of an index, one behind the other; when a line fits, and that the line of a circuit fits where all do.
-- Assumes nothing.
use mathlib.Core.Path.{◌≡◌, refl, ap, sym, subst, ◌∙◌}
use mathlib.Core.Bool.{Bool, true, false, cond}
use mathlib.Core.List.{List, [], ◌∷◌}
use Prim.Native.Nat.{ℕ, suc, ◌+◌, zero, ◌*◌, ◌/◌, ◌≤◌, ◌<◌}
use native.Mathlib.Nat.{div-eq-sub-div, div-eq_of_lt, mul-div_cancel_left}
use native.Mathlib.Numerals.{add-one}
use native.Mathlib.Omega.{arith}
use lib.Dec.{eqb, leb, ltb}
use lib.ListN.{length, take, drop, length-drop}
use Rattle.std.proofs.lemmas.List.{length-take-le, get_or-take, drop-take}
use borrow.Author.Tests.{eqb-true, ltb-true, leb-true, le-leb}
use Rattle.common.specs.Lists.{any}
use Rattle.common.proofs.Tests.{both, clash}
use Rattle.std.proofs.Common.{Option, None, Some}
use Rattle.std.specs.Prelude.{option_map}
use Rattle.std.specs.List.{find}
use Rattle.book.specs.declared.BookLine.{BookLine}
use Rattle.book.specs.BookContracts.{lines_in, line_is, line_if}
use Rattle.book.specs.Lookup.{IndexLine, first_line, index_lines, line_fits, lines_fit, is_listed, listed_line, well_formed}

module _ (above at : ℕ) (x : IndexLine) where
  -- what it says that a line fits
  pub record Fits : Type 0 where
    pub rises : above < x.number
    pub most : x.number ≤ 2048
    pub begins : x.offset ≡ at
    pub some : 1 ≤ x.hops
    pub few : x.hops ≤ 9

  pub line_fits_lem : line_fits above at x ≡ true → Fits
  unfolding line_fits
  line_fits_lem e =
      let a = both (ltb above x.number) _ e in
      let b = both (leb x.number 2048) _ a.1 in
      let c = both (eqb x.offset at) _ b.1 in
      let d = both (leb 1 x.hops) _ c.1 in
      record {
        rises = ltb-true above x.number a.0;
        most = leb-true x.number 2048 b.0;
        begins = eqb-true x.offset at c.0;
        some = leb-true 1 x.hops d.0;
        few = leb-true x.hops 9 d.1;
      }

-- a line is its first six bytes
pub line_taken : (n : ℕ) (b : List ℕ) → 6 ≤ n → first_line (take n b) ≡ first_line b
line_taken n b h =
    rw (
      get_or-take n b 0 0 (omega arith),
      get_or-take n b 1 0 (omega arith),
      get_or-take n b 2 0 (omega arith),
      get_or-take n b 3 0 (omega arith),
      get_or-take n b 4 0 (omega arith),
      get_or-take n b 5 0 (omega arith),
    ) refl

-- n lines are those of their bytes
pub lines_taken : (n : ℕ) (b : List ℕ) → index_lines n (take (6 * n) b) ≡ index_lines n b
unfolding index_lines
lines_taken zero b = refl
lines_taken (suc n) b =
    let e : 6 * suc n ≡ 6 + 6 * n = omega arith in
    rw (e, line_taken (6 + 6 * n) b (omega arith), drop-take 6 (6 * n) b, lines_taken n (drop 6 b)) refl

-- the lines of as many bytes as there are
pub lines_cut : (n : ℕ) (b : List ℕ) → 6 * n ≤ length b → lines_in (take (6 * n) b) ≡ index_lines n b
unfolding lines_in
lines_cut n b h =
    ap (λ (m : ℕ). index_lines (m / 6) (take (6 * n) b)) (length-take-le (6 * n) b h) ∙ ap (λ (m : ℕ). index_lines m (take (6 * n) b)) (mul-div_cancel_left n (omega arith)) ∙ lines_taken n b

pub lines_end : (b : List ℕ) → length b < 6 → lines_in b ≡ []
unfolding lines_in index_lines
lines_end b h = ap (λ (m : ℕ). index_lines m b) (div-eq_of_lt h)

pub lines_next : (b : List ℕ) → 6 ≤ length b → lines_in b ≡ first_line (take 6 b) ∷ lines_in (drop 6 b)
unfolding lines_in index_lines
lines_next b h =
    let e : length b / 6 ≡ suc (length (drop 6 b) / 6) = div-eq-sub-div (omega arith) h ∙ add-one _ ∙ ap (λ (m : ℕ). suc (m / 6)) (sym (length-drop 6 b)) in
    ap (λ (m : ℕ). index_lines m b) e ∙ ap (λ (x : IndexLine). x ∷ lines_in (drop 6 b)) (sym (line_taken 6 b (omega arith)))

-- The line of a circuit that is listed where all lines fit: it has 1 to 9 hops, and they end before the count.
pub record LineFound (x : IndexLine) (total : ℕ) : Type 0 where
  pub some : 1 ≤ x.hops
  pub few : x.hops ≤ 9
  pub inside : x.offset + x.hops ≤ total

pub at_most : (above at : ℕ) (xs : List IndexLine) (total : ℕ) → lines_fit above at xs total ≡ true → at ≤ total
unfolding lines_fit
at_most above at [] total e = let q = eqb-true at total e in omega arith
at_most above at (x ∷ xs) total e = let r = both (line_fits above at x) _ e in let h = at_most x.number (at + x.hops) xs total r.1 in omega arith

pub line_found : (c above at : ℕ) (xs : List IndexLine) (total : ℕ) → lines_fit above at xs total ≡ true → is_listed c xs ≡ true → LineFound (listed_line c xs) total
unfolding lines_fit is_listed any listed_line
line_found c above at [] total e l = absurd (clash l refl)
line_found c above at (x ∷ xs) total e l =
    let r = both (line_fits above at x) _ e in go (eqb x.number c) refl (line_fits_lem above at x r.0) (at_most x.number (at + x.hops) xs total r.1) (line_found c x.number (at + x.hops) xs total r.1)
  where
    go : (b : Bool) → eqb x.number c ≡ b → Fits above at x → at + x.hops ≤ total → (is_listed c xs ≡ true → LineFound (listed_line c xs) total) → LineFound (cond b x (listed_line c xs)) total
    go true q f m ih = record { some = f.some; few = f.few; inside = omega (arith, m, f.begins) }
    go false q f m ih = ih (rw q at l)

-- and where it is not listed, its line is zeros
pub line_none : (c : ℕ) (xs : List IndexLine) → is_listed c xs ≡ false → (listed_line c xs).hops ≡ 0
unfolding is_listed any listed_line
line_none c [] l = refl
line_none c (x ∷ xs) l = go (eqb x.number c) refl (line_none c xs)
  where
    go : (b : Bool) → eqb x.number c ≡ b → (is_listed c xs ≡ false → (listed_line c xs).hops ≡ 0) → (cond b x (listed_line c xs)).hops ≡ 0
    go true q ih = absurd (clash (rw q) l)
    go false q ih = ih (rw q at l)

-- the line of a circuit is the first with its number
module _ (c : ℕ) where
  abbrev found : List IndexLine → Option IndexLine → Type 0
  found xs None = is_listed c xs ≡ false
  found xs (Some x) = (is_listed c xs ≡ true) × (x ≡ listed_line c xs)

  first_found : (xs : List IndexLine) → found xs (find (λ x. eqb x.number c) xs)
  unfolding is_listed any listed_line
  first_found [] = refl
  first_found (x ∷ xs) = go (eqb x.number c) refl (first_found xs)
    where
      go : (b : Bool) → eqb x.number c ≡ b → found xs (find (λ y. eqb y.number c) xs) → found (x ∷ xs) (cond b (Some x) (find (λ y. eqb y.number c) xs))
      go true q _ = rw q (refl, refl)
      go false q h = in_rest (find (λ y. eqb y.number c) xs) h
        where
          in_rest : (o : Option IndexLine) → found xs o → found (x ∷ xs) o
          in_rest None h = rw q h
          in_rest (Some y) h = rw q h

  pub line_if_first : (xs : List IndexLine) (r : Option BookLine) → option_map line_is r ≡ find (λ x. eqb x.number c) xs → line_if c xs r
  line_if_first xs None e = subst (found xs) (sym e) (first_found xs)
  line_if_first xs (Some x) e = subst (found xs) (sym e) (first_found xs)

-- A book whose counts do not fit their buffers is not well formed; where they fit, its lines decide.
module _ (ports index : List ℕ) (circuits hops : ℕ) where
  pub lines_decide : 6 * circuits ≤ length index → hops ≤ length ports → well_formed ports index circuits hops ≡ lines_fit 0 0 (index_lines circuits index) hops
  unfolding well_formed
  lines_decide h k = rw (le-leb (6 * circuits) (length index) h, le-leb hops (length ports) k)

  -- what a well-formed book has
  pub formed : well_formed ports index circuits hops ≡ true → (6 * circuits ≤ length index) × (hops ≤ length ports) × (lines_fit 0 0 (index_lines circuits index) hops ≡ true)
  unfolding well_formed
  formed e =
      let a = both (leb (6 * circuits) (length index)) _ e in
      let b = both (leb hops (length ports)) _ a.1 in
      (leb-true (6 * circuits) (length index) a.0, leb-true hops (length ports) b.0, b.1)
