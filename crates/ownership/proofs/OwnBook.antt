-- A book with at least one circuit, written of a table, is refused by that table while its circuits are open (Judging 9).
-- Assumes nothing.
use mathlib.Core.Path.{◌≡◌, refl, ap, sym, ◌∙◌}
use mathlib.Core.Logic.{◌≢◌}
use mathlib.Core.Bool.{true}
use mathlib.Core.List.{List}
use Prim.Native.Nat.{ℕ, ◌*◌, ◌≤◌}
use lib.ListN.{length}
use Rattle.common.specs.Lists.{◌∈◌}
use Rattle.common.proofs.Lists.{all_map}
use Rattle.common.proofs.Tests.{clash}
use Rattle.cube.specs.Cube.{largest_dimension}
use Rattle.cube.proofs.Circuits.{circuit_of_parts}
use Rattle.table.specs.View.{View, view}
use Rattle.circuit_path.specs.CircuitSound.{CircuitSound}
use Rattle.circuit_path.specs.OpenCircuit.{is_open_in}
use Rattle.circuit_path.specs.Traced.{traced_into}
use Rattle.book.specs.Book.{BookCircuit, port_bytes, index_bytes, hop_count}
use Rattle.book.specs.BookOf.{open_numbers, book_of}
use Rattle.book.specs.WellFormed.{WellFormed}
use Rattle.book.proofs.BookOfSound.{open_exactly, book_well}
use Rattle.book.proofs.WellFormedBook.{well_formed_exactly}
use Rattle.judging.specs.Judged.{judge_facts, circuits_in}
use Rattle.judging.specs.Loadable.{CircuitRight, CircuitsRight}
use Rattle.judging.proofs.ReadBack.{circuits_back}
use Rattle.ownership.specs.Calls.{booking, CallResult, result_of}
use Rattle.ownership.specs.OnTable.{facts_of, table_step}
use Rattle.ownership.specs.Allowed.{Allowed}
use Rattle.ownership.specs.Agrees.{Accepted}
use Rattle.ownership.specs.Judging.{book_circuits, judging_of}
use Rattle.ownership.proofs.Allowed.{allowed}
use Rattle.ownership.proofs.Stops.{none_stops, none_stops_lent, pass_tests}
use Rattle.ownership.proofs.Steps.{table_step_lem}
use Rattle.ownership.proofs.OnSound.{open_sound}
use Rattle.ownership.proofs.ChosenChannels.{first_of}
use Rattle.ownership.proofs.Judging.{judging_says}

module _ (v : View) where
  -- A circuit of the book of a table has its send channel open there, so that it is not right for that table.
  not_right : (x : BookCircuit) → x ∈ book_of v → CircuitRight (judge_facts v) x → ⊥
  unfolding book_of
  not_right =
      all_map (λ x. CircuitRight (judge_facts v) x → ⊥) _ (open_numbers v)
      (λ c m right. let r = (open_exactly v c).0 m in clash r.0 (ap (is_open_in v) (sym (circuit_of_parts c r.1)) ∙ right.not_open))

  module _ (fits : v.dimension ≤ largest_dimension) (stands : (c : ℕ) → c ≢ 0 → is_open_in v c ≡ true → CircuitSound v c) (some : 1 ≤ length (book_of v))
      (ports index : List ℕ) (p : hop_count (book_of v) ≤ length ports) (i : 6 * length (book_of v) ≤ length index) where
    abbrev port_buffer : List ℕ
    port_buffer = traced_into (port_bytes (book_of v)) ports

    abbrev index_buffer : List ℕ
    index_buffer = traced_into (index_bytes (book_of v)) index

    -- The book, where it lists a circuit, is well formed and has a bad send channel.
    own_bad : WellFormed port_buffer index_buffer (length (book_of v)) (hop_count (book_of v))
        × (CircuitsRight (judge_facts v) (circuits_in port_buffer index_buffer (length (book_of v))) → ⊥)
    own_bad = (
      (well_formed_exactly _ _ _ _).0 (book_well v fits stands ports index p i),
      (λ right.
          let first = first_of (book_of v) some in
          not_right first.0 first.1 (right first.0 (rw (circuits_back (book_of v) ports index) first.1))),
    )

module _ (q : ℕ) (b ports index : List ℕ) where
  -- what the booking gave
  abbrev written : CallResult
  written = (table_step q b (booking ports index)).result

  -- A book with at least one circuit, judged by the table that it was written of while those circuits are open, answers 26: their send channels are in use.
  pub own_book_refused : Accepted q b (booking ports index) → 1 ≤ book_circuits written → (table_step q b (judging_of written)).result.number ≡ 26
  unfolding result_of facts_of Allowed view
  own_book_refused booked some =
      let a = booking ports index in
      let z = (table_step_lem q b a).passed booked in
      let e = none_stops_lent q b a refl z in
      let p = pass_tests q b e in
      let r = allowed (facts_of (view b)) a (none_stops q b a z) in
      rw ((table_step_lem q b a).result z)
      ((judging_says q b _ _ _ _ e).bad_circuit.1 (own_bad (view b) p.2 (open_sound (view b) p.3) (rw ((table_step_lem q b a).result z) at some) ports index r.0 r.1))
