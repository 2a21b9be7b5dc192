-- Judging 10: what it is for the circuits of a book to be open beside those of a history. Judging 11: no search has to take their paths.
-- Assumes nothing.
use Rattle.std.specs.Prelude.{◌≡◌, List, ◌++◌, map, ℕ}
use Rattle.cube.specs.Cube.{source_of, channel_of}
use Rattle.paths.specs.Network.{Network}
use Rattle.book.specs.Book.{BookCircuit}
use Rattle.judging.specs.Judged.{target_in}
use Rattle.ownership.specs.History.{Circuit, History, net_on}
use Rattle.ownership.specs.HistoryView.{bytes_of}
use Rattle.ownership.specs.Invariant.{Represents}

-- a circuit of a book as a history lists it: of the send channel that its number names, over its ports to the node where they lead, with the receive channel
-- that `receive` gives for its number
abbrev pub listed_as : Network → (receive : ℕ → ℕ) → BookCircuit → Circuit
listed_as N receive x =
    record { source = source_of x.number; channel = channel_of x.number; ports = x.ports; target = target_in N x; receive = receive x.number }

-- Judging 10, on a table with q ports to a node: there is a history
pub record CanLoad (q : ℕ) (h : History) (xs : List BookCircuit) : Type 0 where
  pub loaded : History
  -- of the same cube,
  pub dimension : loaded.dimension ≡ h.dimension
  pub fold : loaded.fold ≡ h.fold
  -- with the same links blocked
  pub blocked : loaded.blocked ≡ h.blocked
  -- and the same receive channels armed,
  pub armed : loaded.armed ≡ h.armed
  -- in which each circuit of the book has some receive channel,
  pub receive : ℕ → ℕ
  -- so that its circuits are those of the book, in their order, and then those that were open,
  pub circuits : loaded.circuits ≡ map (listed_as (net_on h) receive) xs ++ h.circuits
  -- and a table represents it. So no two of these circuits share a link, a send channel or a receive channel, and each receive channel is armed.
  pub represented : Represents q (bytes_of q loaded) loaded
