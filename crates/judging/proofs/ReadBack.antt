-- The circuits that a written book lists are those that it was written of.
-- Assumes nothing.
use mathlib.Core.Path.{◌≡◌, refl, ap, ap₂, sym, ◌∙◌}
use mathlib.Core.List.{List, [], ◌∷◌, ◌++◌, map, append_assoc}
use Prim.Native.Nat.{ℕ}
use lib.ListN.{length, take, drop, length-append}
use lib.Seq.{take-append_seam, drop_at}
use Rattle.circuit_path.specs.Traced.{traced_into}
use Rattle.book.specs.Book.{BookCircuit, port_bytes, index_bytes}
use Rattle.book.proofs.WrittenBook.{lines_of, lines_written}
use Rattle.judging.specs.Judged.{circuit_on, circuits_in}

-- the ports of a circuit that stand behind others are found at the offset behind those
ports_found : (before w after : List ℕ) → take (length w) (drop (length before) (before ++ (w ++ after))) ≡ w
ports_found before w after = ap (take (length w)) (drop_at before (w ++ after) (length before) refl) ∙ take-append_seam w after

-- so the lines of circuits give them back, whatever stands before and behind their ports
pub lines_back : (before rest : List ℕ) (xs : List BookCircuit) → map (circuit_on (before ++ (port_bytes xs ++ rest))) (lines_of (length before) xs) ≡ xs
unfolding lines_of port_bytes
lines_back before rest [] = refl
lines_back before rest (x ∷ xs) =
    ap₂ (λ (w : List ℕ) (ys : List BookCircuit). record { number = x.number; ports = w } ∷ ys)
    (ap (λ (b : List ℕ). take (length x.ports) (drop (length before) (before ++ b))) (append_assoc x.ports (port_bytes xs) rest) ∙ ports_found before x.ports (port_bytes xs ++ rest))
    (ap₂ (λ (b : List ℕ) (n : ℕ). map (circuit_on b) (lines_of n xs)) bytes (sym (length-append before x.ports)) ∙ lines_back (before ++ x.ports) rest xs)
  where
    bytes : before ++ ((x.ports ++ port_bytes xs) ++ rest) ≡ (before ++ x.ports) ++ (port_bytes xs ++ rest)
    bytes = ap (before ++◌) (append_assoc x.ports (port_bytes xs) rest) ∙ sym (append_assoc before x.ports (port_bytes xs ++ rest))

-- and two buffers that a book was written to list its circuits.
pub circuits_back : (xs : List BookCircuit) (ports index : List ℕ) → circuits_in (traced_into (port_bytes xs) ports) (traced_into (index_bytes xs) index) (length xs) ≡ xs
unfolding traced_into
circuits_back xs ports index =
    ap (map (circuit_on (port_bytes xs ++ drop (length (port_bytes xs)) ports))) (lines_written 0 xs (drop (length (index_bytes xs)) index))
    ∙ lines_back [] (drop (length (port_bytes xs)) ports) xs
