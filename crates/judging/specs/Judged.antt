-- The tests by which a book, whoever wrote it, is judged against a table. What it is that no test stops one, Loadable says without a test, and that the two agree
-- is proved (Loadable.accepted_exactly).
-- Assumes nothing.
use Rattle.std.specs.Prelude.{Bool, true, false, not, ◌&&◌, List, [], ◌∷◌, ◌++◌, map, ℕ, eqb, ltb, length}
use Rattle.std.specs.List.{list_all}
use Rattle.common.specs.Tests.{Test, test}
use Rattle.common.specs.Lists.{keep, from}
use Rattle.cube.specs.Axes.{present}
use Rattle.cube.specs.Cube.{channels, cube_nodes, circuit_of, source_of, channel_of}
use Rattle.paths.specs.Network.{Network, Path, Link, end, links, has_link}
use Rattle.paths.specs.CubeNetwork.{Shape, network}
use Rattle.table.specs.View.{View, available}
use Rattle.answers.specs.SendOnTable.{free_in}
use Rattle.circuit_path.specs.OpenCircuit.{is_open_in}
use Rattle.book.specs.Book.{BookCircuit}
use Rattle.book.specs.Lookup.{IndexLine, index_lines, ports_of_line, well_formed}

-- Judging 1: what judging asks of whatever a book is judged against
pub record JudgeFacts : Type 0 where
  -- the dimension, and the fold mask
  pub dimension : ℕ
  pub fold : ℕ
  -- whether a send channel has an open circuit, by source and channel
  pub is_open : ℕ → ℕ → Bool
  -- whether a link is free, by node and port
  pub free : ℕ → ℕ → Bool
  -- whether a receive channel is available, armed and not held, by node and channel
  pub available : ℕ → ℕ → Bool

-- the same of a table, from what it shows
abbrev pub judge_facts : View → JudgeFacts
judge_facts v =
    record { dimension = v.dimension; fold = v.fold; is_open = λ s c. is_open_in v (circuit_of s c); free = free_in v; available = available v }

abbrev pub judge_shape : JudgeFacts → Shape
judge_shape a = record { dimension = a.dimension; fold = a.fold }

abbrev pub judge_net : JudgeFacts → Network
judge_net a = network (judge_shape a)

-- the circuits that the lines of an index list, in their order, each with its ports
abbrev pub circuit_on : List ℕ → IndexLine → BookCircuit
circuit_on ports x = record { number = x.number; ports = ports_of_line ports x }

abbrev pub circuits_in : (ports index : List ℕ) (circuits : ℕ) → List BookCircuit
circuits_in ports index circuits = map (circuit_on ports) (index_lines circuits index)

-- the links of a circuit's path, and its target, the node where its ports lead
abbrev pub links_in : Network → BookCircuit → List Link
links_in N x = links N (source_of x.number) x.ports

abbrev pub target_in : Network → BookCircuit → ℕ
target_in N x = end N (source_of x.number) x.ports

-- Paths 5, Paths 6: what may follow an arrival at n, as a test
unfoldable pub goes_on : Network → ℕ → ℕ → Path → Bool
goes_on N t n [] = eqb n t
goes_on N t n (p ∷ w) = not (eqb n t) && (N.offers t n p && goes_on N t (N.next n p) w)

-- Judging 4: a permitted path with any first hop, since some send vector has it (Soundness 8)
unfoldable pub is_permitted : Network → ℕ → ℕ → Path → Bool
is_permitted N s t [] = false
is_permitted N s t (p ∷ w) = goes_on N t (N.next s p) w

-- Judging 4: the source and all ports are the cube's, partners of folded dimensions among them.
unfoldable pub in_cube : JudgeFacts → BookCircuit → Bool
in_cube a x = ltb (source_of x.number) (cube_nodes a.dimension) && list_all (present a.dimension a.fold) x.ports

-- Judging 4: source, path and send channel of a circuit will do.
unfoldable pub circuit_fits : JudgeFacts → BookCircuit → Bool
circuit_fits a x =
    in_cube a x
    && (is_permitted (judge_net a) (source_of x.number) (target_in (judge_net a) x) x.ports && not (a.is_open (source_of x.number) (channel_of x.number)))

-- Judging 5: each link is free and is none of those that came before it. No permitted path has a link twice (Paths 10), so one that came before is another
-- circuit's.
unfoldable pub links_fit : (ℕ → ℕ → Bool) → List Link → List Link → Bool
links_fit free before [] = true
links_fit free before (l ∷ ls) = free l.0 l.1 && (not (has_link before l.0 l.1) && links_fit free (l ∷ before) ls)

-- the links of all circuits of a book
unfoldable pub all_links : Network → List BookCircuit → List Link
all_links N [] = []
all_links N (x ∷ xs) = links_in N x ++ all_links N xs

-- Judging 6: at each target, fewer circuits of the book came before one than it has available channels.
unfoldable pub targets_fit : (ℕ → ℕ → Bool) → List ℕ → List ℕ → Bool
targets_fit available before [] = true
targets_fit available before (t ∷ ts) =
    ltb (length (keep (eqb t) before)) (length (keep (available t) (from 0 channels))) && targets_fit available (t ∷ before) ts

-- Judging 3: 25, 26, 27 and 11 in this order, each over the whole book. Judging 7: a book of no circuit and no hop passes them all.
unfoldable pub judge_tests : JudgeFacts → (ports index : List ℕ) (circuits hops : ℕ) → List Test
judge_tests a ports index circuits hops =
    let xs = circuits_in ports index circuits in
    test (not (well_formed ports index circuits hops)) 25 ∷ test (not (list_all (circuit_fits a) xs)) 26
    ∷ test (not (links_fit a.free [] (all_links (judge_net a) xs))) 27
    ∷ test (not (targets_fit a.available [] (map (target_in (judge_net a)) xs))) 11 ∷ []
