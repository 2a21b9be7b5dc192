-- The computed test of a book agrees with Books 9 as WellFormed says it.
-- Assumes nothing.
use mathlib.Core.Path.{◌≡◌, refl, ap, ap₂, sym, ◌∙◌, fun_ext}
use mathlib.Core.Logic.{◌↔◌}
use mathlib.Core.Bool.{true}
use mathlib.Core.List.{List, [], ◌∷◌}
use Prim.Native.Nat.{ℕ, zero, suc, ◌+◌, ◌*◌, ◌≤◌, ◌<◌}
use native.Mathlib.Omega.{arith}
use lib.ListN.{get_or, drop}
use lib.Seq.{get_or-drop}
use borrow.Author.Tests.{eqb-true, eq-eqb, lt-ltb, le-leb}
use Rattle.common.proofs.Tests.{both, and}
use Rattle.layout.specs.Layout.{word_at}
use Rattle.book.specs.Lookup.{IndexLine, index_lines, line_fits, lines_fit, well_formed}
use Rattle.book.specs.WellFormed.{circuit_number_at, offset_at, length_at, WellFormed}
use Rattle.book.proofs.Lines.{Fits, line_fits_lem, formed, lines_decide}

-- line i of an index, by its places
abbrev line_at : List ℕ → ℕ → IndexLine
line_at b i = record { number = circuit_number_at b i; offset = offset_at b i; hops = length_at b i }

-- the first n of a sequence of lines
abbrev first_of : (ℕ → IndexLine) → ℕ → List IndexLine
first_of x zero = []
first_of x (suc n) = x zero ∷ first_of (λ i. x (suc i)) n

-- the word of the next line at the same place
next_word : (b : List ℕ) (i j : ℕ) → 6 + i ≡ j → word_at (drop 6 b) i ≡ word_at b j
next_word b i j e =
    let f : 6 + (i + 1) ≡ j + 1 = omega arith in
    ap₂ (λ (x y : ℕ). x + 256 * y) (get_or-drop 6 b i 0 ∙ ap (λ (m : ℕ). get_or b m 0) e) (get_or-drop 6 b (i + 1) 0 ∙ ap (λ (m : ℕ). get_or b m 0) f)

next_line : (b : List ℕ) (i : ℕ) → line_at (drop 6 b) i ≡ line_at b (suc i)
next_line b i =
    let number : circuit_number_at (drop 6 b) i ≡ circuit_number_at b (suc i) = next_word b (6 * i) (6 * suc i) (omega arith) in
    let offset : offset_at (drop 6 b) i ≡ offset_at b (suc i) = next_word b (6 * i + 2) (6 * suc i + 2) (omega arith) in
    let hops : length_at (drop 6 b) i ≡ length_at b (suc i) = next_word b (6 * i + 4) (6 * suc i + 4) (omega arith) in
    λ k. record { number = number k; offset = offset k; hops = hops k }

-- the lines of an index are those at its places
lines_at : (n : ℕ) (b : List ℕ) → index_lines n b ≡ first_of (line_at b) n
unfolding index_lines
lines_at zero b = refl
lines_at (suc n) b = ap (line_at b 0 ∷◌) (lines_at n (drop 6 b) ∙ ap (λ (x : ℕ → IndexLine). first_of x n) (fun_ext (next_line b)))

-- WellFormed for n lines behind one with the number `above`, whose ports should run from `at` to `total`
record Run (x : ℕ → IndexLine) (n above at total : ℕ) : Type 0 where
  first : 0 < n → above < (x 0).number
  most : (i : ℕ) → i < n → (x i).number ≤ 2048
  rise : (i : ℕ) → suc i < n → (x i).number < (x (suc i)).number
  lengths : (i : ℕ) → i < n → (1 ≤ (x i).hops) × ((x i).hops ≤ 9)
  begin : 0 < n → (x 0).offset ≡ at
  no_gap : (i : ℕ) → suc i < n → (x (suc i)).offset ≡ (x i).offset + (x i).hops
  to_count : (i : ℕ) → suc i ≡ n → (x i).offset + (x i).hops ≡ total
  nothing : n ≡ 0 → at ≡ total

-- a line that fits before lines that run
run_cons : (x : ℕ → IndexLine) (n above at total : ℕ) → Fits above at (x 0) → Run (λ i. x (suc i)) n (x 0).number (at + (x 0).hops) total → Run x (suc n) above at total
run_cons x n above at total f r =
    record { first = λ h. f.rises; most = most; rise = rise; lengths = lengths; begin = λ h. f.begins; no_gap = no_gap; to_count = to_count; nothing = λ h. absurd (omega arith) }
  where
    most : (i : ℕ) → i < suc n → (x i).number ≤ 2048
    most zero h = f.most
    most (suc i) h = r.most i (omega arith)

    rise : (i : ℕ) → suc i < suc n → (x i).number < (x (suc i)).number
    rise zero h = r.first (omega arith)
    rise (suc i) h = r.rise i (omega arith)

    lengths : (i : ℕ) → i < suc n → (1 ≤ (x i).hops) × ((x i).hops ≤ 9)
    lengths zero h = (f.some, f.few)
    lengths (suc i) h = r.lengths i (omega arith)

    no_gap : (i : ℕ) → suc i < suc n → (x (suc i)).offset ≡ (x i).offset + (x i).hops
    no_gap zero h = r.begin (omega arith) ∙ ap (◌+ (x 0).hops) (sym f.begins)
    no_gap (suc i) h = r.no_gap i (omega arith)

    to_count : (i : ℕ) → suc i ≡ suc n → (x i).offset + (x i).hops ≡ total
    to_count zero h = ap (◌+ (x 0).hops) f.begins ∙ r.nothing (omega arith)
    to_count (suc i) h = r.to_count i (omega arith)

-- lines that run, without the first
run_tail : (x : ℕ → IndexLine) (n above at total : ℕ) → Run x (suc n) above at total → Run (λ i. x (suc i)) n (x 0).number (at + (x 0).hops) total
run_tail x n above at total r =
    let begins : (x 0).offset ≡ at = r.begin (omega arith) in
    record {
      first = λ h. r.rise 0 (omega arith);
      most = λ i h. r.most (suc i) (omega arith);
      rise = λ i h. r.rise (suc i) (omega arith);
      lengths = λ i h. r.lengths (suc i) (omega arith);
      begin = λ h. r.no_gap 0 (omega arith) ∙ ap (◌+ (x 0).hops) begins;
      no_gap = λ i h. r.no_gap (suc i) (omega arith);
      to_count = λ i h. r.to_count (suc i) (omega arith);
      nothing = λ h. ap (◌+ (x 0).hops) (sym begins) ∙ r.to_count 0 (omega arith);
    }

-- a line of which this is so passes its test
pub fits_line : (above at : ℕ) (x : IndexLine) → Fits above at x → line_fits above at x ≡ true
unfolding line_fits
fits_line above at x f =
    and (lt-ltb above x.number f.rises) (and (le-leb x.number 2048 f.most) (and (eq-eqb x.offset at f.begins) (and (le-leb 1 x.hops f.some) (le-leb x.hops 9 f.few))))

-- the test of the lines says exactly that they run
fit_run : (x : ℕ → IndexLine) (n above at total : ℕ) → lines_fit above at (first_of x n) total ≡ true → Run x n above at total
unfolding lines_fit
fit_run x zero above at total e =
    record {
      first = λ h. absurd (omega arith);
      most = λ i h. absurd (omega arith);
      rise = λ i h. absurd (omega arith);
      lengths = λ i h. absurd (omega arith);
      begin = λ h. absurd (omega arith);
      no_gap = λ i h. absurd (omega arith);
      to_count = λ i h. absurd (omega arith);
      nothing = λ h. eqb-true at total e;
    }
fit_run x (suc n) above at total e =
    let r = both (line_fits above at (x 0)) _ e in
    run_cons x n above at total (line_fits_lem above at (x 0) r.0) (fit_run (λ i. x (suc i)) n (x 0).number (at + (x 0).hops) total r.1)

run_fit : (x : ℕ → IndexLine) (n above at total : ℕ) → Run x n above at total → lines_fit above at (first_of x n) total ≡ true
unfolding lines_fit
run_fit x zero above at total r = eq-eqb at total (r.nothing refl)
run_fit x (suc n) above at total r =
    let f : Fits above at (x 0) =
    record {
      rises = r.first (omega arith);
      most = r.most 0 (omega arith);
      begins = r.begin (omega arith);
      some = (r.lengths 0 (omega arith)).0;
      few = (r.lengths 0 (omega arith)).1;
    } in
    and (fits_line above at (x 0) f) (run_fit (λ i. x (suc i)) n (x 0).number (at + (x 0).hops) total (run_tail x n above at total r))

-- numbers that rise from 1 on are 1 at least
least_all : (x : ℕ → IndexLine) (n at total : ℕ) → Run x n 0 at total → (i : ℕ) → i < n → 1 ≤ (x i).number
least_all x n at total r zero h = r.first h
least_all x n at total r (suc i) h = let l = least_all x n at total r i (omega arith) in omega (arith, r.rise i h)

-- Books 9: the computed test passes exactly where the book is well formed.
pub well_formed_exactly : (ports index : List ℕ) (circuits hops : ℕ) → (well_formed ports index circuits hops ≡ true) ↔ WellFormed ports index circuits hops
well_formed_exactly ports index circuits hops = (to, from)
  where
    to : well_formed ports index circuits hops ≡ true → WellFormed ports index circuits hops
    to e =
        let b = formed ports index circuits hops e in
        let r = fit_run (line_at index) circuits 0 0 hops (rw (lines_at circuits index) at b.2) in
        record {
          index_fits = b.0;
          ports_fit = b.1;
          least = least_all (line_at index) circuits 0 hops r;
          most = r.most;
          rise = r.rise;
          lengths = r.lengths;
          from_zero = r.begin;
          no_gap = r.no_gap;
          to_count = r.to_count;
          nothing = λ h. sym (r.nothing h);
        }

    from : WellFormed ports index circuits hops → well_formed ports index circuits hops ≡ true
    from w =
        let r : Run (line_at index) circuits 0 0 hops =
        record {
          first = w.least 0;
          most = w.most;
          rise = w.rise;
          lengths = w.lengths;
          begin = w.from_zero;
          no_gap = w.no_gap;
          to_count = w.to_count;
          nothing = λ h. sym (w.nothing h);
        } in
        lines_decide ports index circuits hops w.index_fits w.ports_fit ∙ rw lines_at (run_fit (line_at index) circuits 0 0 hops r)
