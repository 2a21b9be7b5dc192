-- What the users rely on of a table's own book (Promises 14, Promises 15), one statement for each promise. Each is the contract of a function of this crate (src/lib.rt), and is
-- proved with it.
-- Assumes nothing.
use Rattle.std.specs.Prelude.{◌≡◌, List, [], ◌∷◌, ℕ, ◌<◌}
use Rattle.cube.specs.Cube.{channels, circuit_of, NodeOf}
use Rattle.layout.specs.Layout.{dimension_at}
use Rattle.layout.specs.Resources.{Width}
use Rattle.table.specs.Encode.{AllBytes}
use Rattle.book.specs.Lookup.{looked_up}
use Rattle.ownership.specs.Calls.{booking, tracing, CallResult}
use Rattle.ownership.specs.OnTable.{table_step}
use Rattle.ownership.specs.Agrees.{Accepted}
use Rattle.ownership.specs.Judging.{book_ports, book_index, book_circuits, book_hops, BookAccepted}

-- a lookup of a circuit number, with a buffer, in the book that a booking gave
abbrev pub lookup_in : CallResult → ℕ → List ℕ → CallResult
lookup_in written c buffer =
    let x = looked_up (book_ports written) (book_index written) (book_circuits written) (book_hops written) c buffer in
    record { number = x.number; values = x.hops ∷ []; buffers = x.buffer ∷ [] }

-- Promises 14, Books 13: a lookup in the book just written gives what a trace of the circuit's send channel gives.
abbrev pub LookupsTrace : Type 0
LookupsTrace =
    (q : ℕ) (b ports index : List ℕ) → Accepted q b (booking ports index) → (s c : ℕ) → NodeOf (dimension_at b) s → c < channels → (buffer : List ℕ)
    → lookup_in (table_step q b (booking ports index)).result (circuit_of s c) buffer ≡ (table_step q b (tracing s c buffer)).result

-- Promises 15, Judging 9: the book that a table wrote is accepted by it once its circuits are closed and their channels armed again.
abbrev pub OwnBooksAccepted : Type 0
OwnBooksAccepted =
    (q : ℕ) → Width q → (b ports index : List ℕ) → Accepted q b (booking ports index) → AllBytes b → BookAccepted q b (table_step q b (booking ports index)).result
