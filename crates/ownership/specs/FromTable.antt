-- The history that a sound table amounts to, whoever wrote its bytes (History 14): a list of calls goes on from it where no history is known.
-- Assumes nothing.
use Rattle.std.specs.Prelude.{not, List, [], ◌∷◌, ◌++◌, map, ℕ, eqb}
use Rattle.common.specs.Lists.{keep, from, lowest}
use Rattle.cube.specs.Cube.{cube_nodes, source_of, channel_of, channels}
use Rattle.paths.specs.Network.{Link}
use Rattle.paths.specs.CubeNetwork.{ports}
use Rattle.table.specs.View.{View, shape_of}
use Rattle.circuit_path.specs.CircuitSound.{end_for}
use Rattle.circuit_path.specs.PathOf.{path_of}
use Rattle.book.specs.BookOf.{open_numbers}
use Rattle.ownership.specs.History.{Circuit, History}

-- the links out of some ports of some nodes, or as many of their receive channels
unfoldable pub links_out : List ℕ → List ℕ → List Link
links_out [] ps = []
links_out (n ∷ ns) ps = map (λ (p : ℕ). (n, p)) ps ++ links_out ns ps

-- the circuit of a number: the path that its links make (Soundness 9), and the lowest receive channel that it holds where that ends
unfoldable pub circuit_at : View → ℕ → Circuit
circuit_at v c =
    record {
      source = source_of c;
      channel = channel_of c;
      ports = path_of v c;
      target = end_for v c (path_of v c);
      receive = lowest (λ k. eqb (v.receiver (end_for v c (path_of v c)) k) c) channels 0;
    }

unfoldable pub history_of : View → History
history_of v =
    record {
      dimension = v.dimension;
      fold = v.fold;
      blocked = keep (λ l. not (v.enabled l.0 l.1)) (links_out (from 0 (cube_nodes v.dimension)) (ports (shape_of v)));
      circuits = map (circuit_at v) (open_numbers v);
      armed = keep (λ l. v.armed l.0 l.1) (links_out (from 0 (cube_nodes v.dimension)) (from 0 channels));
    }
