-- Judging 2: what a yes means, without a computed test of a path, of links or of channels.
-- It shares with the tests (Judged) what a line of the index gives: its circuit with its ports (circuits_in), the links that they go over (links_in) and the node
-- where they lead (target_in). Ports cut wrongly there would show in two theorems about a book that was written of a table: it is accepted once its circuits are
-- closed (Judging 9: ownership/Judging.book_accepted), and a lookup in it gives what a trace gives (Books 13: ownership/BookLookup.book_traces).
-- Assumes nothing.
use Rattle.std.specs.Prelude.{◌≡◌, false, true, List, ℕ, ◌-◌, eqb, ◌≤◌, ◌<◌, ◌^◌, length}
use Rattle.common.specs.Lists.{◌∈◌, keep, from, Pairwise}
use Rattle.cube.specs.Bits.{has}
use Rattle.cube.specs.Cube.{source_of, channel_of}
use Rattle.paths.specs.Network.{Network, Link}
use Rattle.paths.specs.Permitted.{Permitted}
use Rattle.paths.specs.CubeNetwork.{send_ports}
use Rattle.book.specs.Book.{BookCircuit}
use Rattle.book.specs.WellFormed.{WellFormed}
use Rattle.judging.specs.Judged.{JudgeFacts, judge_shape, judge_net, circuits_in, links_in, target_in}

-- Cube 4: a port of a cube of dimension D with a fold mask: one below D, or the partner of a folded dimension. Ports below 9 are dimensions and those of 9 to 17
-- partners, so where D is at most 8, as on every table, a partner is one of 10 to 17.
pub data PortOf (D fold p : ℕ) : Type 0 where
  own_port : p < 9 → p < D → PortOf D fold p
  partner_port : 8 < p → p < 18 → 17 - p < D → has fold (17 - p) ≡ true → PortOf D fold p

-- Judging 2, of one circuit:
pub record CircuitRight (a : JudgeFacts) (x : BookCircuit) : Type 0 where
  -- its source and all its ports are the cube's,
  pub source : source_of x.number < 2 ^ a.dimension
  pub port : (p : ℕ) → p ∈ x.ports → PortOf a.dimension a.fold p
  -- its ports are a permitted path of some vector
  pub vector : ℕ
  pub vector_small : vector < 2 ^ a.dimension
  -- to the node of the cube where they lead,
  pub target : target_in (judge_net a) x < 2 ^ a.dimension
  pub permitted : Permitted (judge_net a) (source_of x.number) (send_ports (judge_shape a) vector) (target_in (judge_net a) x) x.ports
  -- and its send channel has no open circuit.
  pub not_open : a.is_open (source_of x.number) (channel_of x.number) ≡ false

abbrev pub CircuitsRight : JudgeFacts → List BookCircuit → Type 0
CircuitsRight a xs = (x : BookCircuit) → x ∈ xs → CircuitRight a x

-- no link is on the paths of two circuits
abbrev pub NoneShared : Network → BookCircuit → BookCircuit → Type 0
NoneShared N x y = (l : Link) → l ∈ links_in N x → l ∈ links_in N y → ⊥

-- Judging 2, of the links:
pub record LinksFree (a : JudgeFacts) (xs : List BookCircuit) : Type 0 where
  -- all links of the circuits are free,
  pub free : (x : BookCircuit) → x ∈ xs → (l : Link) → l ∈ links_in (judge_net a) x → a.free l.0 l.1 ≡ true
  -- and no two circuits share one.
  pub apart : Pairwise (NoneShared (judge_net a)) xs

-- Judging 2, of the channels: each node has at least as many available ones as circuits of the book end there.
abbrev pub ChannelsSuffice : JudgeFacts → List BookCircuit → Type 0
ChannelsSuffice a xs = (t : ℕ) → length (keep (λ x. eqb (target_in (judge_net a) x) t) xs) ≤ length (keep (a.available t) (from 0 8))

-- Judging 2:
pub record Loadable (a : JudgeFacts) (ports index : List ℕ) (circuits hops : ℕ) : Type 0 where
  -- the book is well formed (Books 9),
  pub well_formed : WellFormed ports index circuits hops
  -- each circuit has its source and ports in the cube, a permitted path and a send channel that is not open,
  pub circuits_right : CircuitsRight a (circuits_in ports index circuits)
  -- the links are free and none is shared,
  pub links_free : LinksFree a (circuits_in ports index circuits)
  -- and each node has enough available receive channels.
  pub channels_suffice : ChannelsSuffice a (circuits_in ports index circuits)
