-- Reading a book, whoever wrote it: when it is well formed, and what a lookup gives.
-- Assumes nothing.
use Rattle.std.specs.Prelude.{Bool, cond, not, ◌&&◌, List, [], ◌∷◌, ℕ, zero, suc, ◌+◌, ◌*◌, eqb, leb, ltb, length, take, drop}
use Rattle.common.specs.Tests.{Test, test, refusal}
use Rattle.common.specs.Lists.{any}
use Rattle.layout.specs.Layout.{word_at}
use Rattle.circuit_path.specs.Traced.{traced_into}
use Rattle.book.specs.Book.{line_length}

-- Books 3: a line of the index
pub record IndexLine : Type 0 where
  pub number : ℕ
  pub offset : ℕ
  pub hops : ℕ

-- the first line of an index, and as many lines as are asked for
abbrev pub first_line : List ℕ → IndexLine
first_line b = record { number = word_at b 0; offset = word_at b 2; hops = word_at b 4 }

unfoldable pub index_lines : ℕ → List ℕ → List IndexLine
index_lines zero b = []
index_lines (suc n) b = first_line b ∷ index_lines n (drop line_length b)

-- Books 9: a line behind one with the number `above`, where its ports should begin at `at`; and all lines from there on, up to the count of hops
unfoldable pub line_fits : ℕ → ℕ → IndexLine → Bool
line_fits above at x = ltb above x.number && (leb x.number 2048 && (eqb x.offset at && (leb 1 x.hops && leb x.hops 9)))

unfoldable pub lines_fit : ℕ → ℕ → List IndexLine → ℕ → Bool
lines_fit above at [] total = eqb at total
lines_fit above at (x ∷ xs) total = line_fits above at x && lines_fit x.number (at + x.hops) xs total

-- Books 9: both counts fit their buffers, and the lines fit.
unfoldable pub well_formed : (ports index : List ℕ) (circuits hops : ℕ) → Bool
well_formed ports index circuits hops = leb (line_length * circuits) (length index) && (leb hops (length ports) && lines_fit 0 0 (index_lines circuits index) hops)

-- whether a circuit is in a book; its line, or zeros where it has none; and the ports that a line gives
unfoldable pub is_listed : ℕ → List IndexLine → Bool
is_listed c xs = any (λ x. eqb x.number c) xs

unfoldable pub listed_line : ℕ → List IndexLine → IndexLine
listed_line c [] = record { number = 0; offset = 0; hops = 0 }
listed_line c (x ∷ xs) = cond (eqb x.number c) x (listed_line c xs)

abbrev pub ports_of_line : List ℕ → IndexLine → List ℕ
ports_of_line ports x = take x.hops (drop x.offset ports)

-- Books 11: 25, then 12, then 14
unfoldable pub lookup_tests : (ports index : List ℕ) (circuits hops c : ℕ) (buffer : List ℕ) → List Test
lookup_tests ports index circuits hops c buffer =
    test (not (well_formed ports index circuits hops)) 25 ∷ test (not (is_listed c (index_lines circuits index))) 12 ∷ test (ltb (length buffer) 9) 14 ∷ []

-- what a lookup answers, and the bytes of its buffer afterwards
pub record LookupResult : Type 0 where
  pub number : ℕ
  pub hops : ℕ
  pub buffer : List ℕ

-- Books 10: a lookup of circuit c in a book. Books 12: the hops of its line, whose ports are put into the buffer; refused, 0 hops, and nothing is written.
unfoldable pub looked_up : (ports index : List ℕ) (circuits hops c : ℕ) (buffer : List ℕ) → LookupResult
looked_up ports index circuits hops c buffer =
    let n = refusal (lookup_tests ports index circuits hops c buffer) in
    let x = listed_line c (index_lines circuits index) in
    cond (eqb n 0) (record { number = 0; hops = x.hops; buffer = traced_into (ports_of_line ports x) buffer }) (record { number = n; hops = 0; buffer = buffer })
