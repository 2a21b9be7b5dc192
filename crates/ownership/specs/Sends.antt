-- A job's list of sends as bytes, and what the sends come to.
-- Assumes nothing.
use Rattle.std.specs.Prelude.{List, map, ℕ, ◌+◌, ◌*◌, ◌/◌, length}
use Rattle.common.specs.Lists.{from}
use Rattle.layout.specs.Layout.{word_at}

-- Jobs 2: a send is five numbers: node, channel, target, type and vector,
pub record Send : Type 0 where
  pub source : ℕ
  pub channel : ℕ
  pub target : ℕ
  pub type : ℕ
  pub vector : ℕ

-- in ten bytes,
abbrev pub send_bytes : ℕ
send_bytes = 10

-- two bytes each, the low one first: of the send at place i, counted from 0, the number at place k of its five
abbrev pub send_number : List ℕ → ℕ → ℕ → ℕ
send_number bytes i k = word_at bytes (send_bytes * i + 2 * k)

unfoldable pub send_at : List ℕ → ℕ → Send
send_at bytes i =
    record {
      source = send_number bytes i 0;
      channel = send_number bytes i 1;
      target = send_number bytes i 2;
      type = send_number bytes i 3;
      vector = send_number bytes i 4;
    }

-- Jobs 2: the sends of a list, in the order in which they are opened
unfoldable pub sends_in : List ℕ → List Send
sends_in bytes = map (send_at bytes) (from 0 (length bytes / send_bytes))

-- What sends opened one after another come to: the number of the first that is refused, 0 where none is; and how many come before it, which is its place
-- from 0 (Jobs 6), or the number of sends where none is refused (Jobs 5).
pub record JobResult : Type 0 where
  pub number : ℕ
  pub sends : ℕ
