-- A book as it is written: the lines of its index read back, it is well formed, and a lookup in it gives the circuit's ports.
-- Assumes nothing.
use mathlib.Core.Path.{◌≡◌, refl, ap, ap₂, sym, ◌∙◌}
use mathlib.Core.Bool.{Bool, true, false, cond, not, ◌||◌}
use mathlib.Core.List.Memᴰ
use mathlib.Core.List.{List, [], ◌∷◌, ◌++◌, map, append_assoc}
use Prim.Native.Nat.{ℕ, ◌+◌, ◌*◌, ◌/◌, ◌%◌, ◌≤◌, ◌<◌}
use native.Mathlib.Nat.{div-add-mod, zero-add}
use native.Mathlib.Omega.{arith}
use lib.Dec.{eqb, ltb}
use lib.ListN.{length, take, drop, length-append, length-drop}
use lib.Seq.{take-append_seam, drop_at}
use borrow.Author.Tests.{eqb-true, eq-eqb}
use Rattle.common.specs.Tests.{test, refusal}
use Rattle.common.specs.Lists.{◌∈◌, any, Pairwise}
use Rattle.common.proofs.Tests.{clash, and}
use Rattle.circuit_path.specs.Traced.{traced_into}
use Rattle.book.specs.Book.{BookCircuit, port_bytes, word_bytes, index_from, index_bytes, hop_count}
use Rattle.book.specs.Lookup.{IndexLine, index_lines, lines_fit, well_formed, is_listed, listed_line, ports_of_line, lookup_tests, LookupResult, looked_up}
use Rattle.book.proofs.Lines.{lines_decide}
use Rattle.book.proofs.WellFormedBook.{fits_line}

-- the lines of circuits whose ports begin at an offset
unfoldable pub lines_of : ℕ → List BookCircuit → List IndexLine
lines_of at [] = []
lines_of at (x ∷ xs) = record { number = x.number; offset = at; hops = length x.ports } ∷ lines_of (at + length x.ports) xs

-- a number is read back from its two bytes
pub word_back : (n : ℕ) → n % 256 + 256 * (n / 256) ≡ n
word_back n = omega (arith, div-add-mod n 256)

-- and each line from its six
pub lines_written : (at : ℕ) (es : List BookCircuit) (rest : List ℕ) → index_lines (length es) (index_from at es ++ rest) ≡ lines_of at es
unfolding index_lines index_from word_bytes lines_of
lines_written at [] rest = refl
lines_written at (x ∷ xs) rest =
    ap₂ (λ (n : ℕ) (ys : List IndexLine). record { number = n; offset = at % 256 + 256 * (at / 256); hops = length x.ports % 256 + 256 * (length x.ports / 256) } ∷ ys)
    (word_back x.number) (lines_written (at + length x.ports) xs rest)
    ∙ ap₂ (λ (n k : ℕ). record { number = x.number; offset = n; hops = k } ∷ lines_of (at + length x.ports) xs) (word_back at) (word_back (length x.ports))

-- the index has six bytes a circuit
pub index_length : (at : ℕ) (es : List BookCircuit) → length (index_from at es) ≡ 6 * length es
unfolding index_from word_bytes
index_length at [] = refl
index_length at (x ∷ xs) = let r = index_length (at + length x.ports) xs in omega (arith, r)

-- a buffer that something was written to is as long as before
pub traced_length : (w buffer : List ℕ) → length w ≤ length buffer → length (traced_into w buffer) ≡ length buffer
unfolding traced_into
traced_length w buffer h = omega (arith, length-append w (drop (length w) buffer), length-drop (length w) buffer)

-- what a lookup answers where the circuit is in the book or not, and its ports
abbrev pub ports_answer : Bool → List ℕ → List ℕ → LookupResult
ports_answer listed w buffer =
    let n = refusal (test (not listed) 12 ∷ test (ltb (length buffer) 9) 14 ∷ []) in
    cond (eqb n 0) (record { number = 0; hops = length w; buffer = traced_into w buffer }) (record { number = n; hops = 0; buffer = buffer })

-- The circuits of some numbers, each with its ports.
module _ (f : ℕ → List ℕ) where
  abbrev pub circuits_of : List ℕ → List BookCircuit
  circuits_of ns = map (λ (n : ℕ). record { number = n; ports = f n }) ns

  -- the numbers rise within 1 to 2,048, and each circuit has 1 to 9 hops
  pub record Listable (ns : List ℕ) : Type 0 where
    pub rises : Pairwise ◌<◌ ns
    pub least : (n : ℕ) → n ∈ ns → 1 ≤ n
    pub most : (n : ℕ) → n ∈ ns → n ≤ 2048
    pub some : (n : ℕ) → n ∈ ns → 1 ≤ length (f n)
    pub few : (n : ℕ) → n ∈ ns → length (f n) ≤ 9

  -- Their lines fit,
  pub written_fits : (above at total : ℕ) (ns : List ℕ) → Listable ns → ((n : ℕ) → n ∈ ns → above < n) → at + hop_count (circuits_of ns) ≡ total
      → lines_fit above at (lines_of at (circuits_of ns)) total ≡ true
  unfolding lines_fit lines_of port_bytes Pairwise
  written_fits above at total [] l h e = eq-eqb at total (omega (arith, e))
  written_fits above at total (n ∷ ns) l h e =
      let here = Memᴰ.head refl in
      let later : Listable ns =
      record {
        rises = l.rises.1;
        least = λ m i. l.least m (Memᴰ.tail i);
        most = λ m i. l.most m (Memᴰ.tail i);
        some = λ m i. l.some m (Memᴰ.tail i);
        few = λ m i. l.few m (Memᴰ.tail i);
      } in
      and (fits_line above at _ (record { rises = h n here; most = l.most n here; begins = refl; some = l.some n here; few = l.few n here }))
      (written_fits n (at + length (f n)) total ns later l.rises.0 (omega (arith, e, length-append (f n) (port_bytes (circuits_of ns)))))

  -- a circuit is listed where its number is among them,
  pub written_listed : (c at : ℕ) (ns : List ℕ) → is_listed c (lines_of at (circuits_of ns)) ≡ any (λ m. eqb m c) ns
  unfolding is_listed any lines_of
  written_listed c at [] = refl
  written_listed c at (n ∷ ns) = ap (λ (b : Bool). eqb n c || b) (written_listed c (at + length (f n)) ns)

  -- and its line gives its ports, whatever stands before and behind the ports of all.
  pub written_line : (c : ℕ) (before rest : List ℕ) (ns : List ℕ) → any (λ m. eqb m c) ns ≡ true
      → ((listed_line c (lines_of (length before) (circuits_of ns))).hops ≡ length (f c))
      × (ports_of_line (before ++ (port_bytes (circuits_of ns) ++ rest)) (listed_line c (lines_of (length before) (circuits_of ns))) ≡ f c)
  unfolding any lines_of listed_line port_bytes
  written_line c before rest [] e = absurd (clash e refl)
  written_line c before rest (n ∷ ns) e = go (eqb n c) refl (written_line c (before ++ f n) rest ns)
    where
      go : (b : Bool) → eqb n c ≡ b
          → (any (λ m. eqb m c) ns ≡ true
          → ((listed_line c (lines_of (length (before ++ f n)) (circuits_of ns))).hops ≡ length (f c))
          × (ports_of_line ((before ++ f n) ++ (port_bytes (circuits_of ns) ++ rest)) (listed_line c (lines_of (length (before ++ f n)) (circuits_of ns))) ≡ f c))
          → ((listed_line c (lines_of (length before) (circuits_of (n ∷ ns)))).hops ≡ length (f c))
          × (ports_of_line (before ++ (port_bytes (circuits_of (n ∷ ns)) ++ rest)) (listed_line c (lines_of (length before) (circuits_of (n ∷ ns)))) ≡ f c)
      go true q ih =
          let same : n ≡ c = eqb-true n c q in
          rw q (
            ap (λ (m : ℕ). length (f m)) same,
            ap (take (length (f n))) (drop_at before _ (length before) refl ∙ append_assoc (f n) (port_bytes (circuits_of ns)) rest) ∙ take-append_seam (f n) _ ∙ ap f same,
          )
      go false q ih =
          let r = ih (rw q at e) in
          let bytes : (before ++ f n) ++ (port_bytes (circuits_of ns) ++ rest) ≡ before ++ ((f n ++ port_bytes (circuits_of ns)) ++ rest) =
          append_assoc before (f n) _ ∙ ap (before ++◌) (sym (append_assoc (f n) (port_bytes (circuits_of ns)) rest)) in
          rw (q, ← length-append before (f n), ← bytes) r

  -- The book of such circuits written into two buffers that hold it.
  module _ (ns : List ℕ) (l : Listable ns) (ports index : List ℕ) (p : hop_count (circuits_of ns) ≤ length ports) (i : 6 * length (circuits_of ns) ≤ length index) where
    abbrev es : List BookCircuit
    es = circuits_of ns

    its_lines : index_lines (length es) (traced_into (index_bytes es) index) ≡ lines_of 0 es
    unfolding traced_into
    its_lines = lines_written 0 es (drop (length (index_bytes es)) index)

    -- it is well formed,
    pub written_well : well_formed (traced_into (port_bytes es) ports) (traced_into (index_bytes es) index) (length es) (hop_count es) ≡ true
    written_well =
        lines_decide (traced_into (port_bytes es) ports) (traced_into (index_bytes es) index) (length es) (hop_count es)
        (omega (arith, i, traced_length (index_bytes es) index (omega (arith, i, index_length 0 es)))) (omega (arith, p, traced_length (port_bytes es) ports p))
        ∙ rw its_lines (written_fits 0 0 (hop_count es) ns l l.least (zero-add (hop_count es)))

    -- the line of a circuit that is among them gives its ports,
    pub written_ports : (c : ℕ) → any (λ m. eqb m c) ns ≡ true
        → ((listed_line c (lines_of 0 es)).hops ≡ length (f c)) × (ports_of_line (traced_into (port_bytes es) ports) (listed_line c (lines_of 0 es)) ≡ f c)
    unfolding traced_into
    written_ports c e = written_line c [] (drop (length (port_bytes es)) ports) ns e

    -- and a lookup in it gives 12 for a number that is not among them, then 14, and else the ports of the circuit.
    pub lookup_written : (c : ℕ) (buffer : List ℕ)
        → looked_up (traced_into (port_bytes es) ports) (traced_into (index_bytes es) index) (length es) (hop_count es) c buffer ≡ ports_answer (any (λ m. eqb m c) ns) (f c) buffer
    unfolding looked_up lookup_tests refusal traced_into
    lookup_written c buffer = go (any (λ m. eqb m c) ns) refl
      where
        go : (b : Bool) → any (λ m. eqb m c) ns ≡ b
            → looked_up (traced_into (port_bytes es) ports) (traced_into (index_bytes es) index) (length es) (hop_count es) c buffer ≡ ports_answer b (f c) buffer
        go true e =
            let r = written_ports c e in
            let hops = r.0 in
            let bytes = r.1 in
            rw (written_well, its_lines, written_listed c 0 ns, e) (rw (bytes, hops))
        go false e = rw (written_well, its_lines, written_listed c 0 ns, e)
