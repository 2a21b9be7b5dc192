-- `booking::own_books_accepted` meets its contract: it is the theorem.
use Rattle.ownership.proofs.Judging.{book_accepted}
use Rattle.booking.proofs.own_books_accepted.Goals as goal

pub returns : goal.returns
returns c = book_accepted
