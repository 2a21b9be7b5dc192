-- What the two halves of the search ask and answer: a node trying its ports, and an arrival.
-- Assumes nothing.
use Rattle.std.specs.Prelude.{◌≡◌, ◌≢◌, true, false, cond, List, [], ◌∷◌, ℕ, ◌+◌, ◌*◌, ◌^◌, ◌≤◌, ◌<◌, leb, length, Option, Some, None}
use Rattle.cube.specs.Axes.{positions}
use Rattle.cube.specs.Bits.{has}
use Rattle.cube.specs.Cube.{largest_dimension, NodeOf}
use Rattle.cube.specs.Helical.{helical, ports_of}
use Rattle.paths.specs.Network.{Network}
use Rattle.paths.specs.Bound.{ways_from}
use Rattle.paths.specs.Search.{trying, arriving}
use Rattle.paths.specs.Send.{Receive, lowest_available, none_available}
use Rattle.layout.specs.Layout.{dimension_at}
use Rattle.table.specs.View.{View, view, net, shape_of}
use Rattle.answers.specs.SendOnTable.{free_in, AnswerOnBytes, answer_on_bytes}
use Rattle.answers.specs.PassOnBytes.{answer_of_pass, arrival_after, hops_left}
use Rattle.answers.specs.SendAnswer.{BoardIn}
use Rattle.paths.specs.BoardPorts.{BoardPorts}

-- the largest distance to a target among the nodes behind the ports of a list
unfoldable pub farthest : Network → ℕ → ℕ → List ℕ → ℕ
farthest N t n [] = 0
farthest N t n (p ∷ ps) = cond (leb (farthest N t n ps) (N.distance t (N.next n p))) (N.distance t (N.next n p)) (farthest N t n ps)

-- the largest such distance behind the ports of a vector
unfoldable pub farthest_after : List ℕ → ℕ → ℕ → ℕ → ℕ
farthest_after b t n vector = farthest (net (view b)) t n (ports_of positions vector)

-- trying the ports of a vector at node n, after an arrival on port a, with h hops made and s scouts sent, where the target takes r; and an arrival
unfoldable pub try_answer : List ℕ → ℕ → ℕ → Receive → ℕ → ℕ → ℕ → ℕ → ℕ → AnswerOnBytes
try_answer b t c r n vector a h s =
    answer_of_pass b c n h r (trying (free_in (view b) n) (arrival_after (net (view b)) (free_in (view b)) t n) (helical a (ports_of positions vector)) s)

unfoldable pub arrive_answer : List ℕ → ℕ → ℕ → Receive → ℕ → ℕ → ℕ → ℕ → AnswerOnBytes
arrive_answer b t c r n a h s = answer_of_pass b c n h r (arriving (hops_left b t n) (net (view b)) (free_in (view b)) t n a s)

-- the ports left of a vector once some that are not free at node n are dropped from it
pub record Narrowed (v : View) (n vector left : ℕ) : Type 0 where
  pub most : left ≤ vector
  pub among : (p : ℕ) → has left p ≡ true → has vector p ≡ true
  pub dropped : (p : ℕ) → p < positions → has vector p ≡ true → has left p ≡ false → free_in v n p ≡ false

-- the ports of a vector are all enabled at node n
abbrev pub Enabled : View → ℕ → ℕ → Type 0
Enabled v n vector = (p : ℕ) → p < positions → has vector p ≡ true → v.enabled n p ≡ true

-- the receive channel that a target has to take, or none, as the code has it
abbrev pub receive_as : Option ℕ → Receive
receive_as (Some k) = lowest_available k
receive_as None = none_available

-- what a pass says that found a free path of so many hops, or none, where the target has a receive channel to take, or none; with the scouts sent, and the
-- bytes afterwards
abbrev pub search_answer : (hops receive : Option ℕ) → (scouts : ℕ) → List ℕ → AnswerOnBytes
search_answer None k s b = answer_on_bytes 10 0 0 s b
search_answer (Some h) (Some k) s b = answer_on_bytes 0 h k s b
search_answer (Some h) None s b = answer_on_bytes 11 0 0 s b

-- what both ask: a table of a cube up to dimension 8 and a board for it, a node and a target of it, a port, a circuit
pub record SearchPre (long q width fold : ℕ) (b : List ℕ) (t c n a : ℕ) : Type 0 where
  pub board : BoardIn q width fold (view b)
  pub bytes : length b ≡ long
  pub fits : dimension_at b ≤ largest_dimension
  pub node : NodeOf (dimension_at b) n
  pub target : NodeOf (dimension_at b) t
  pub port : a < width
  pub circuit : c ≢ 0
  pub small : c < 65536

pub record MayTry (long q width fold : ℕ) (b : List ℕ) (t c n vector a h s : ℕ) : Type 0 where
  pub here : SearchPre long q width fold b t c n a
  pub vector_ports : BoardPorts width (shape_of (view b)) vector
  pub hops : h + 1 + farthest_after b t n vector < 65536
  pub room : s + length (ports_of positions vector) * (1 + ways_from 2 (farthest_after b t n vector)) < 2 ^ 32

pub record MayArrive (long q width fold : ℕ) (b : List ℕ) (t c n a h s : ℕ) : Type 0 where
  pub here : SearchPre long q width fold b t c n a
  pub hops : h + hops_left b t n < 65536
  pub room : s + ways_from 2 (hops_left b t n) < 2 ^ 32
