-- `table_book::book_size` meets its contract: each count is that of what the table shows.
use Rattle.table.specs.View.{view}
use Rattle.table_book.proofs.book_size.Goals as goal

pub returns : goal.returns
returns g c = unfold view in (c.count_held.ensures, c.count_held-2.ensures)
