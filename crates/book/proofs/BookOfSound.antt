-- The book of a table: which numbers it lists, that it is well formed when written, and that a lookup in it gives the path of a circuit.
-- Assumes nothing.
use mathlib.Core.Path.{◌≡◌, refl, ap, sym, ◌∙◌}
use mathlib.Core.Logic.{◌↔◌, ◌≢◌}
use mathlib.Core.Bool.{Bool, true, false, not}
use mathlib.Core.List.{List, [], ◌∷◌}
use Prim.Native.Nat.{ℕ, ◌*◌, ◌≤◌, ◌<◌}
use native.Mathlib.Omega.{arith}
use lib.Dec.{eqb}
use lib.ListN.{length}
use borrow.Author.Tests.{eqb-true, eq-eqb}
use Rattle.common.specs.Lists.{◌∈◌, from, any, Pairwise}
use Rattle.common.proofs.Tests.{clash, is_false}
use Rattle.common.proofs.Lists.{keep_mem, mem_keep, keep_pairwise, any_some, some_any}
use Rattle.common.proofs.From.{from_mem, mem_from, from_pairwise}
use Rattle.cube.specs.Cube.{largest_dimension, source_of}
use Rattle.cube.proofs.Ports.{most_nodes}
use Rattle.paths.specs.CubeNetwork.{ports, circuit_count}
use Rattle.paths.proofs.CubeNetwork.{path_hops}
use Rattle.table.specs.View.{View, shape_of}
use Rattle.circuit_path.specs.CircuitSound.{end_for, CircuitSound}
use Rattle.circuit_path.specs.PathOf.{path_of, is_empty}
use Rattle.circuit_path.specs.OpenCircuit.{is_open_in}
use Rattle.circuit_path.specs.Traced.{traced_into}
use Rattle.circuit_path.proofs.CircuitSound.{path_is, open_path}
use Rattle.book.specs.Book.{port_bytes, index_bytes, hop_count}
use Rattle.book.specs.BookOf.{open_numbers, book_of}
use Rattle.book.specs.Lookup.{well_formed, looked_up}
use Rattle.book.proofs.WrittenBook.{ports_answer, Listable, written_well, lookup_written}

module _ (v : View) where
  -- the numbers of the open circuits rise
  pub open_rises : Pairwise ◌<◌ (open_numbers v)
  unfolding open_numbers
  open_rises = keep_pairwise (is_open_in v) ◌<◌ (from 1 (circuit_count (shape_of v))) (from_pairwise 1 (circuit_count (shape_of v)))

  -- and are exactly those numbers of the cube that are open
  pub open_exactly : (c : ℕ) → (c ∈ open_numbers v) ↔ ((is_open_in v c ≡ true) × (1 ≤ c) × (c ≤ circuit_count (shape_of v)))
  unfolding open_numbers
  open_exactly c = (
    (λ m. let k = keep_mem (is_open_in v) (from 1 (circuit_count (shape_of v))) m in let r = from_mem 1 (circuit_count (shape_of v)) k.0 in (k.1, r.0, omega arith)),
    λ h. let most = h.2 in mem_keep (is_open_in v) (from 1 (circuit_count (shape_of v))) (mem_from 1 (circuit_count (shape_of v)) c h.1 (omega arith)) h.0,
  )

  -- so a number of the cube is listed where it is open
  pub open_listed : (c : ℕ) → 1 ≤ c → c ≤ circuit_count (shape_of v) → any (λ m. eqb m c) (open_numbers v) ≡ is_open_in v c
  open_listed c low high = go (is_open_in v c) refl
    where
      go : (b : Bool) → is_open_in v c ≡ b → any (λ m. eqb m c) (open_numbers v) ≡ b
      go true e = some_any (λ m. eqb m c) (open_numbers v) ((open_exactly c).1 (e, low, high)) (eq-eqb c c refl)
      go false e =
          is_false (any (λ m. eqb m c) (open_numbers v)) (λ a.
          let s = any_some (λ m. eqb m c) (open_numbers v) a in
          let same = eqb-true s.0 c s.2 in
          clash ((open_exactly c).0 (rw same at s.1)).0 e)

  -- an open circuit has a hop
  pub open_hops : (c : ℕ) → is_open_in v c ≡ true → 1 ≤ length (path_of v c)
  unfolding is_empty
  open_hops c e = go (path_of v c) (sym (open_path v c) ∙ e)
    where
      go : (w : List ℕ) → not (is_empty w) ≡ true → 1 ≤ length w
      go [] h = absurd (clash h refl)
      go (p ∷ w) h = omega arith

  -- A table of a cube up to dimension 8, of which every open circuit stands on its path, as in a sound table.
  module _ (fits : v.dimension ≤ largest_dimension) (stands : (c : ℕ) → c ≢ 0 → is_open_in v c ≡ true → CircuitSound v c) where
    -- its circuits have nine hops at most
    pub stands_hops : (c : ℕ) → c ≢ 0 → is_open_in v c ≡ true → length (path_of v c) ≤ 9
    stands_hops c n e =
        let s = stands c n e in
        let h = path_hops (shape_of v) (source_of c) (ports (shape_of v)) (end_for v c s.path) s.path s.permitted in
        omega (arith, h.1, ap length (path_is v c s))

    -- so they can be listed
    pub open_listable : Listable (path_of v) (open_numbers v)
    open_listable =
        record {
          rises = open_rises;
          least = λ n m. ((open_exactly n).0 m).1;
          most = λ n m. omega (arith, ((open_exactly n).0 m).2, most_nodes fits);
          some = λ n m. open_hops n ((open_exactly n).0 m).0;
          few = λ n m. let low = ((open_exactly n).0 m).1 in stands_hops n (λ z. omega arith) ((open_exactly n).0 m).0;
        }

    -- The book of the table, written into two buffers that hold it,
    module _ (ports index : List ℕ) (p : hop_count (book_of v) ≤ length ports) (i : 6 * length (book_of v) ≤ length index) where
      -- is well formed,
      pub book_well : well_formed (traced_into (port_bytes (book_of v)) ports) (traced_into (index_bytes (book_of v)) index) (length (book_of v)) (hop_count (book_of v)) ≡ true
      unfolding book_of
      book_well = written_well (path_of v) (open_numbers v) open_listable ports index p i

      -- and a lookup in it gives 12 for a circuit of the cube that is not open, then 14, and else the circuit's path.
      pub book_lookup : (c : ℕ) → 1 ≤ c → c ≤ circuit_count (shape_of v) → (buffer : List ℕ)
          → looked_up (traced_into (port_bytes (book_of v)) ports) (traced_into (index_bytes (book_of v)) index) (length (book_of v)) (hop_count (book_of v)) c buffer
          ≡ ports_answer (is_open_in v c) (path_of v c) buffer
      unfolding book_of
      book_lookup c low high buffer =
          lookup_written (path_of v) (open_numbers v) open_listable ports index p i c buffer ∙ ap (λ (b : Bool). ports_answer b (path_of v c) buffer) (open_listed c low high)
