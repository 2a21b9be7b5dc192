-- What the call that writes a book gives: where a test of the table stops it, where a buffer is short, and where the book is written.
-- Assumes nothing.
use mathlib.Core.Path.{◌≡◌, refl, ap₂, sym, ◌∙◌}
use mathlib.Core.Logic.{◌≢◌, ◌⊎◌, inl, inr, ⊎_elim}
use mathlib.Core.Bool.{◌||◌}
use mathlib.Core.List.{List, [], ◌∷◌}
use Prim.Native.Nat.{ℕ, ◌*◌, ◌≤◌, ◌<◌}
use native.Mathlib.Omega.{arith}
use lib.Dec.{ltb}
use lib.ListN.{length}
use borrow.Author.Tests.{lt-ltb, le-ltb}
use Rattle.common.specs.Tests.{refusal}
use Rattle.common.proofs.Tests.{or_left, or_right, refused, passed, accepted}
use Rattle.cube.specs.Cube.{largest_dimension}
use Rattle.layout.specs.Layout.{dimension_at}
use Rattle.layout.specs.Resources.{LayoutLaws, Width}
use Rattle.table.specs.View.{view}
use Rattle.table.specs.Encode.{AllBytes}
use Rattle.soundness.specs.TableTests.{table_tests}
use Rattle.circuit_path.specs.Traced.{traced_into}
use Rattle.book.specs.Book.{port_bytes, index_bytes, hop_count}
use Rattle.book.specs.BookOf.{book_of}
use Rattle.ownership.specs.Calls.{booking, call_tests, result_of}
use Rattle.ownership.specs.OnTable.{facts_of, lent_tests, stopped_at, table_step, done}
use Rattle.ownership.proofs.BytesAfter.{bytes_written}
use Rattle.ownership.proofs.Stops.{pass_tests}
use Rattle.call_tests.proofs.Stopping.{table_stops as lent_stops, table_passes}
use Rattle.router.proofs.TableStep.{call_stopped, call_passed}

-- a table that passes them is one of a cube that it has room for
pub book_table : {long q enable links receives arms : ℕ} (laws : LayoutLaws long q enable links receives arms) (b : List ℕ) → 0 ≡ refusal (table_tests q b)
    → (length b ≡ long) × (dimension_at b ≤ largest_dimension)
book_table {q = q} laws b z = let r = pass_tests q b (sym z) in (r.0 ∙ sym laws.long_is, r.2)

module _ (q : ℕ) (b ports index : List ℕ) where
  -- a test of the table stops it
  pub table_stops : {n : ℕ} → n ≡ refusal (table_tests q b) → n ≢ 0 → done b n (0 ∷ 0 ∷ []) (ports ∷ index ∷ []) ≡ table_step q b (booking ports index)
  unfolding stopped_at lent_tests
  table_stops e f = call_stopped q b (booking ports index) (sym (lent_stops q b _ e f)) f

  module _ (z : 0 ≡ refusal (table_tests q b)) where
    -- a buffer is short
    pub book_short : (length ports < hop_count (book_of (view b))) ⊎ (length index < 6 * length (book_of (view b)))
        → done b 23 (0 ∷ 0 ∷ []) (ports ∷ index ∷ []) ≡ table_step q b (booking ports index)
    unfolding stopped_at lent_tests call_tests facts_of
    book_short h =
        let short = ⊎_elim (λ p. or_left (ltb (length index) (6 * length (book_of (view b)))) (lt-ltb (length ports) (hop_count (book_of (view b))) p))
        (λ i. or_right (ltb (length ports) (hop_count (book_of (view b)))) (lt-ltb (length index) (6 * length (book_of (view b))) i)) h in
        call_stopped q b (booking ports index) (sym (table_passes q b _ (sym z) ∙ refused 23 [] short)) (λ e. omega arith)

    -- each of the two by itself
    pub ports_short : length ports < hop_count (book_of (view b)) → done b 23 (0 ∷ 0 ∷ []) (ports ∷ index ∷ []) ≡ table_step q b (booking ports index)
    ports_short h = book_short (inl h)

    pub index_short : length index < 6 * length (book_of (view b)) → done b 23 (0 ∷ 0 ∷ []) (ports ∷ index ∷ []) ≡ table_step q b (booking ports index)
    index_short h = book_short (inr h)

    -- or it is written
    pub book_written : Width q → AllBytes b → hop_count (book_of (view b)) ≤ length ports → 6 * length (book_of (view b)) ≤ length index → {circuits hops : ℕ} {ports₁ index₁ : List ℕ}
        → circuits ≡ length (book_of (view b)) → hops ≡ hop_count (book_of (view b)) → ports₁ ≡ traced_into (port_bytes (book_of (view b))) ports → index₁ ≡ traced_into (index_bytes (book_of (view b))) index
        → done b 0 (circuits ∷ hops ∷ []) (ports₁ ∷ index₁ ∷ []) ≡ table_step q b (booking ports index)
    unfolding stopped_at lent_tests call_tests facts_of result_of bytes_written
    book_written width small h k c d p i =
        call_passed q b (booking ports index) width
        (sym (table_passes q b _ (sym z) ∙ passed 23 [] (ap₂ ◌||◌ (le-ltb (length ports) (hop_count (book_of (view b))) h) (le-ltb (length index) (6 * length (book_of (view b))) k)) ∙ accepted))
        small refl (rw (c, d, p, i))
