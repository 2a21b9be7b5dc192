-- What always holds of a history that begins with an accepted making (History 13), and when a table's bytes represent a history.
-- Assumes nothing.
use Rattle.std.specs.Prelude.{◌≡◌, true, List, ℕ, ◌≤◌, ◌<◌}
use Rattle.common.specs.Lists.{◌∈◌, Pairwise}
use Rattle.paths.specs.CubeNetwork.{ports, Node, LinkOf}
use Rattle.paths.specs.Network.{Network, Link}
use Rattle.paths.specs.Permitted.{Permitted}
use Rattle.table.specs.View.{view}
use Rattle.table.specs.Encode.{BytesOver}
use Rattle.ownership.specs.History.{Circuit, History, shape_on, net_on, links_of, enabled_on, armed_on}
use Rattle.ownership.specs.HistoryView.{view_of}
use Rattle.cube.specs.Bits.{has}
use Rattle.cube.specs.Cube.{channels, largest_dimension}

-- History 13, Cube 15: what holds of each listed circuit. It is a send channel's of the cube, its path is permitted and ends on its target, its links are not
-- blocked, and its receive channel is armed.
pub record CircuitValid (h : History) (x : Circuit) : Type 0 where
  pub source : Node (shape_on h) x.source
  pub channel : x.channel < channels
  pub permitted : Permitted (net_on h) x.source (ports (shape_on h)) x.target x.ports
  pub enabled : (l : Link) → l ∈ links_of (net_on h) x → enabled_on h l.0 l.1 ≡ true
  pub receive : x.receive < channels
  -- Soundness 5: every held receive channel is armed.
  pub armed : armed_on h x.target x.receive ≡ true

-- History 13: two circuits have no link, no receive channel and no send channel in common.
pub record Disjoint (N : Network) (x y : Circuit) : Type 0 where
  pub send : x.source ≡ y.source → x.channel ≡ y.channel → ⊥
  pub link : (l : Link) → l ∈ links_of N x → l ∈ links_of N y → ⊥
  pub receives : x.target ≡ y.target → x.receive ≡ y.receive → ⊥

-- what always holds of a history that begins with an accepted making
pub record Valid (h : History) : Type 0 where
  pub least : 1 ≤ h.dimension
  pub most : h.dimension ≤ largest_dimension
  -- Soundness 2: no fold bit is at or above D.
  pub folded : (p : ℕ) → has h.fold p ≡ true → p < h.dimension
  pub blocked : (l : Link) → l ∈ h.blocked → LinkOf (shape_on h) l.0 l.1
  pub armed : (l : ℕ × ℕ) → l ∈ h.armed → Node (shape_on h) l.0 × (l.1 < channels)
  pub every_circuit : (x : Circuit) → x ∈ h.circuits → CircuitValid h x
  pub apart : Pairwise (Disjoint (net_on h)) h.circuits

-- These bytes, of a table with q ports to a node, represent this history; so its fold mask is a byte, and 0 where the table is narrow. Such a table is sound, and
-- stays so (Calls 21): a list of calls can go on from it, however it came to be.
pub record Represents (q : ℕ) (b : List ℕ) (h : History) : Type 0 where
  pub bytes : BytesOver q b
  pub shows : view b ≡ view_of h
  pub valid : Valid h
