-- Books 13: a lookup in a book that was just written gives what a trace gives.
-- Assumes nothing.
use mathlib.Core.Path.{◌≡◌, refl, ap, sym, ◌∙◌}
use mathlib.Core.Bool.{Bool, true, false, cond, not}
use mathlib.Core.List.{List, [], ◌∷◌}
use Prim.Native.Nat.{ℕ, ◌*◌, ◌^◌, ◌≤◌, ◌<◌}
use native.Mathlib.Omega.{arith}
use lib.Dec.{eqb, ltb}
use lib.ListN.{length}
use Rattle.common.specs.Tests.{test, refusal}
use Rattle.common.proofs.Tests.{passed}
use Rattle.cube.specs.Cube.{channels, circuit_of, NodeOf}
use Rattle.layout.specs.Layout.{dimension_at}
use Rattle.table.specs.View.{view}
use Rattle.soundness.specs.TableTests.{table_tests}
use Rattle.circuit_path.specs.PathOf.{path_of}
use Rattle.circuit_path.specs.OpenCircuit.{is_open_in}
use Rattle.circuit_path.specs.Traced.{traced_into}
use Rattle.book.specs.Lookup.{LookupResult, looked_up}
use Rattle.book.proofs.WrittenBook.{ports_answer}
use Rattle.book.proofs.BookOfSound.{book_lookup}
use Rattle.ownership.specs.Calls.{booking, tracing, CallResult, refused_with, call_tests, result_of, call_on}
use Rattle.ownership.specs.Allowed.{Allowed}
use Rattle.ownership.specs.TableFacts.{open_in}
use Rattle.ownership.specs.OnTable.{facts_of, stopped_at, table_step}
use Rattle.ownership.specs.Judging.{book_ports, book_index, book_circuits, book_hops}
use Rattle.ownership.proofs.Allowed.{allowed, is_below, channel_is}
use Rattle.ownership.proofs.Stops.{none_stops, none_stops_lent, pass_tests, stopped_is}
use Rattle.ownership.proofs.Steps.{table_step_lem}
use Rattle.ownership.proofs.OnSound.{open_sound}

-- what a lookup answers, as a trace answers it
abbrev pub as_trace : LookupResult → CallResult
as_trace x = record { number = x.number; values = x.hops ∷ []; buffers = x.buffer ∷ [] }

module _ (q : ℕ) (b : List ℕ) (s c : ℕ) (node : NodeOf (dimension_at b) s) (small : c < channels) (buffer : List ℕ) where
  -- a trace on a table that passes its tests, of a send channel of the cube
  trace_answers : refusal (table_tests q b) ≡ 0 → as_trace (ports_answer (is_open_in (view b) (circuit_of s c)) (path_of (view b) (circuit_of s c)) buffer) ≡ (table_step q b (tracing s c buffer)).result
  unfolding table_step call_on result_of call_tests facts_of open_in view
  trace_answers e = go (eqb n 0) refl ∙ ap (λ (m : ℕ). cond (eqb m 0) traced (refused_with m (tracing s c buffer))) (sym stops)
    where
      n : ℕ
      n = refusal (test (not (is_open_in (view b) (circuit_of s c))) 12 ∷ test (ltb (length buffer) 9) 14 ∷ [])

      traced : CallResult
      traced = record { number = 0; values = length (path_of (view b) (circuit_of s c)) ∷ []; buffers = traced_into (path_of (view b) (circuit_of s c)) buffer ∷ [] }

      stops : stopped_at q b (tracing s c buffer) ≡ n
      stops = let p = pass_tests q b e in stopped_is q b p.0 p.1 p.2 p.3 (tracing s c buffer) ∙ passed 4 _ (is_below s _ node) ∙ passed 5 _ (channel_is c small)

      go : (x : Bool) → eqb n 0 ≡ x → as_trace (ports_answer (is_open_in (view b) (circuit_of s c)) (path_of (view b) (circuit_of s c)) buffer) ≡ cond (eqb n 0) traced (refused_with n (tracing s c buffer))
      go true q = rw q
      go false q = rw q

  -- of every circuit number whose source is a node of the cube
  pub book_traces : (ports index : List ℕ) → (table_step q b (booking ports index)).result.number ≡ 0
      → as_trace (looked_up (book_ports (table_step q b (booking ports index)).result) (book_index (table_step q b (booking ports index)).result) (book_circuits (table_step q b (booking ports index)).result)
      (book_hops (table_step q b (booking ports index)).result) (circuit_of s c) buffer)
      ≡ (table_step q b (tracing s c buffer)).result
  unfolding result_of facts_of Allowed view
  book_traces ports index written =
      let a = booking ports index in
      let z = (table_step_lem q b a).passed written in
      let e = none_stops_lent q b a refl z in
      let p = pass_tests q b e in
      let r = allowed (facts_of (view b)) a (none_stops q b a z) in
      let high : circuit_of s c ≤ channels * 2 ^ dimension_at b = omega (arith, node, small) in
      rw ((table_step_lem q b a).result z)
      (ap as_trace (book_lookup (view b) p.2 (open_sound (view b) p.3) ports index r.0 r.1 (circuit_of s c) (omega arith) high buffer) ∙ trace_answers e)
