-- Soundness by counting: each circuit that holds a receive channel is followed once, and the hops of all of them, added up, are as many as the links that
-- are held. What the functions that count answer, of a table with q ports to a node.
-- Assumes nothing.
use Rattle.std.specs.Prelude.{◌≡◌, ◌≢◌, Bool, true, ◌&&◌, List, ℕ, ◌+◌, ◌*◌, ◌≤◌, ◌<◌, Option, Some, None}
use Rattle.cube.specs.Cube.{channels, source_of, NodeOf}
use Rattle.layout.specs.Layout.{entry_count}
use Rattle.paths.specs.Network.{Path, Exactly}
use Rattle.paths.specs.Permitted.{Permitted}
use Rattle.paths.specs.CubeNetwork.{LinkOf, ports, circuit_count}
use Rattle.table.specs.TableContracts.{place_count}
use Rattle.table.specs.View.{View, shape_of, net, held_by}
use Rattle.circuit_path.specs.CircuitSound.{end_for, CircuitSound}
use Rattle.soundness.specs.Sound.{Sound}
use Rattle.circuit_hops.specs.Seen.{seen_at, Seen}

-- channel k of node n comes before place i, where places run node by node
abbrev pub Earlier : ℕ → ℕ → ℕ → Type 0
Earlier i n k = (k < channels) × (channels * n + k < i)

-- circuit c holds a receive channel before place i
unfoldable pub ReceivedBefore : View → ℕ → ℕ → Type 0
ReceivedBefore v i c = (n : ℕ) × (k : ℕ) × Earlier i n k × (v.receiver n k ≡ c)

-- what is known of the circuit on channel k of node n once it was followed: its path has exactly those of its links that are on
pub record CircuitFollowed (v : View) (on : ℕ → ℕ → Bool) (n k : ℕ) : Type 0 where
  pub node : NodeOf v.dimension n
  pub armed : v.armed n k ≡ true
  pub in_range : v.receiver n k ≤ circuit_count (shape_of v)
  pub path : Path
  pub permitted : Permitted (net v) (source_of (v.receiver n k)) (ports (shape_of v)) n path
  pub exactly : Exactly (net v) (source_of (v.receiver n k)) path (λ m q. held_by v (v.receiver n k) m q && on m q)
  pub whole : (s : CircuitSound v (v.receiver n k)) → end_for v (v.receiver n k) s.path ≡ n → s.path ≡ path

-- What holds after the receive channels before place i were looked at: `on` has the links of the paths followed, as many as hops were counted; each is held
-- by a circuit that was received before; no circuit was received twice; and those circuits are marked.
pub record Counting (q : ℕ) (v : View) (i hops : ℕ) (seen : List ℕ) : Type 0 where
  pub on : ℕ → ℕ → Bool
  pub count : place_count q on (entry_count q) ≡ hops
  pub on_paths : (m p : ℕ) → on m p ≡ true → (m < 256) × (p < q) × (v.owner m p ≢ 0) × ReceivedBefore v i (v.owner m p)
  pub followed : (n k : ℕ) → Earlier i n k → v.receiver n k ≢ 0 → CircuitFollowed v on n k
  pub once : (n k m j : ℕ) → Earlier i n k → Earlier i m j → v.receiver n k ≡ v.receiver m j → v.receiver n k ≢ 0 → (n ≡ m) × (k ≡ j)
  pub marks : (n k : ℕ) → Earlier i n k → v.receiver n k ≢ 0 → Seen v seen (v.receiver n k)
  pub marks_received : (s p : ℕ) → LinkOf (shape_of v) s p → seen_at seen s p ≡ true → ReceivedBefore v i (v.owner s p)

-- what looking at the receive channels from place i up to place j comes to, as hops
pub record Counted (q : ℕ) (v : View) (i j : ℕ) (before after : List ℕ) (hops : ℕ) : Type 0 where
  pub counts : (h : ℕ) → Counting q v i h before → Counting q v j (h + hops) after
  pub most : hops + 9 * i ≤ 9 * j

-- and where it comes to nothing, the table is not sound
abbrev pub Counts : ℕ → View → ℕ → ℕ → List ℕ → List ℕ → Option ℕ → Type 0
Counts q v i j before after (Some hops) = Counted q v i j before after hops
Counts q v i j before after None = (h : ℕ) → Counting q v i h before → Sound v → ⊥

-- what counting the unheld links of nodes n₀ up to n₁ comes to, where a held one must be enabled
pub record UnheldCounted (q : ℕ) (v : View) (n₀ n₁ unheld : ℕ) : Type 0 where
  pub enabled : (n p : ℕ) → n₀ ≤ n → n < n₁ → p < q → v.owner n p ≢ 0 → v.enabled n p ≡ true
  pub counted : place_count q (held_by v 0) (q * n₀) + unheld ≡ place_count q (held_by v 0) (q * n₁)
  pub most : unheld + q * n₀ ≤ q * n₁

-- and where it comes to nothing, the table is not sound
abbrev pub CountsUnheld : ℕ → View → ℕ → ℕ → Option ℕ → Type 0
CountsUnheld q v n₀ n₁ (Some unheld) = UnheldCounted q v n₀ n₁ unheld
CountsUnheld q v n₀ n₁ None = Sound v → ⊥
