-- `booking::lookups_trace` meets its contract: it is the theorem.
use Rattle.ownership.proofs.BookLookup.{book_traces}
use Rattle.booking.proofs.lookups_trace.Goals as goal

pub returns : goal.returns
returns c = λ q b ports index written s k node small buffer. book_traces q b s k node small buffer ports index written
