-- `booking::book` meets its contract: the tests of the table, the room in both buffers, and then the book is written.
use native.Mathlib.Omega.{arith}
use mathlib.Core.Path.{refl}
use mathlib.Core.Logic.{inl, inr}
use Rattle.std.proofs.lemmas.Result.{err_from_is_err_and}
use Rattle.common.proofs.Refusals as refusals
use Rattle.booking.proofs.BookStep.{table_stops, book_short, book_written}
use Rattle.booking.proofs.Sizes.{size_of_table}
use Rattle.booking.proofs.book.Goals as goal
use Rattle.booking.proofs.book.Goals.{then-ports-from-via-then-ports-from, then-ports-from-via-else-ports-from+then-index-from}

pub returns-in_err-check : goal.returns-in_err-check
returns-in_err-check g c =
    let p = err_from_is_err_and c.from_residual.result c.from_residual.ensures.1 in
    rw (p.1, p.2) (table_stops _ _ _ _ c.in_err-check.ensures.tests (refusals.refused _))

pub returns-then-ports-from : goal.returns-then-ports-from
returns-then-ports-from g c =
    let size = size_of_table g.met.L.Layout.laws c.args.t.now c.in_ok-check.ensures.tests (c.in_ok-check.ensures.sound refl) c.book_size-size.ensures.0 c.book_size-size.ensures.1 in
    book_short _ _ _ _ c.in_ok-check.ensures.tests
    (elim c.then-ports-from.branch [
      | then-ports-from-via-then-ports-from w ↦ inl (omega (arith, w.if-ports-from.true, c.from.ensures, size.1))
      | then-ports-from-via-else-ports-from+then-index-from w ↦ inr (omega (arith, w.if-index-from.true, w.from-else-ports-from.ensures, size.0))
    ])

pub write_book-requires : goal.write_book-requires
write_book-requires g c =
    let size = size_of_table g.met.L.Layout.laws c.args.t.now c.in_ok-check.ensures.tests (c.in_ok-check.ensures.sound refl) c.book_size-size.ensures.0 c.book_size-size.ensures.1 in
    (omega (arith, size.1, c.from.ensures, c.if-ports-from.false), omega (arith, size.0, c.from-else-ports-from.ensures, c.if-index-from.false))

pub returns : goal.returns
returns g c =
    let size = size_of_table g.met.L.Layout.laws c.args.t.now c.in_ok-check.ensures.tests (c.in_ok-check.ensures.sound refl) c.book_size-size.ensures.0 c.book_size-size.ensures.1 in
    let written = c.write_book.ensures in
    book_written _ _ _ _ c.in_ok-check.ensures.tests g.met.L.Layout.laws.ports_are (λ i. omega (arith, c.type_inv.t i)) (omega (arith, size.1, c.from.ensures, c.if-ports-from.false)) (omega (arith, size.0, c.from-else-ports-from.ensures, c.if-index-from.false))
    size.0 size.1 written.ports_after written.index_after
