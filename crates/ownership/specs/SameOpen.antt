-- What an open of routing type 0 looks at, and what it is for it to get the same on two tables (Promises 12).
-- Assumes nothing.
use Rattle.std.specs.Prelude.{◌≡◌, List, ℕ, ◌<◌}
use Rattle.cube.specs.Cube.{channels, next}
use Rattle.paths.specs.Between.{Between}
use Rattle.table.specs.View.{View, view}
use Rattle.answers.specs.SendOnTable.{state_in, send_in}
use Rattle.ownership.specs.Calls.{opening, tracing}
use Rattle.ownership.specs.TableFacts.{open_in, taken_in}
use Rattle.ownership.specs.OnTable.{table_step}

-- Promises 12: two tables of which an open from send channel c of node s to node t sees the same: they have
pub record SameBetween (s c t : ℕ) (v w : View) : Type 0 where
  -- one dimension,
  pub dimension : v.dimension ≡ w.dimension
  -- nothing folded,
  pub unfolded : v.fold ≡ 0
  pub unfolded_too : w.fold ≡ 0
  -- links that are free in both, held in both or blocked in both, where they lead between two nodes of that part of the cube,
  pub links : (n p : ℕ) → p < v.dimension → Between s t n → Between s t (next n p) → state_in v n p ≡ state_in w n p
  -- receive channels of the target armed alike and held alike,
  pub armed : (k : ℕ) → k < channels → v.armed t k ≡ w.armed t k
  pub held : (k : ℕ) → k < channels → taken_in v t k ≡ taken_in w t k
  -- and the send channel open in both or in neither, where a node has such a channel
  pub send_channel : c < channels → open_in v s c ≡ open_in w s c

-- Promises 12: the open comes to the same on the bytes a and b, where it is a call on q ports to a node and one on r:
pub record SameOpen (q r s c t type vector : ℕ) (a b : List ℕ) : Type 0 where
  -- its search finds the same path and channel, with the same scouts, or is rejected in the same way
  pub sent : send_in (view a) s t type vector ≡ send_in (view b) s t type vector
  -- its number and all that it answers beside it, hops, receive channel and scouts
  pub result : (table_step q a (opening s c t type vector)).result ≡ (table_step r b (opening s c t type vector)).result
  -- and, where it is acknowledged, its path: what every trace of its circuit gives afterwards
  pub path : (table_step q a (opening s c t type vector)).result.number ≡ 0 → (buffer : List ℕ)
      → (table_step q (table_step q a (opening s c t type vector)).state (tracing s c buffer)).result ≡ (table_step r (table_step r b (opening s c t type vector)).state (tracing s c buffer)).result
