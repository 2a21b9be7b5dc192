-- The links that `HelixPath` has still to give.
-- Assumes nothing.
use mathlib.Core.Bool.{cond}
use lib.Dec.{eqb}
use Rattle.std.specs.Prelude.{List, [], ℕ}
use Rattle.cube.specs.declared.kinds.Node.{Node}
use Rattle.cube.specs.declared.kinds.Port.{Port}
use Rattle.cube.specs.Helical.{first_of}
use Rattle.paths.specs.Network.{Link}
use Rattle.paths.specs.HelixLinks.{helix_links}

-- those from a node on, by the ports that are offered there and the port of arrival
unfoldable pub links_offered : ℕ → ℕ → ℕ → ℕ → ℕ → List Link
links_offered fold n t vector arrival = cond (eqb vector 0) [] (helix_links fold n t (first_of vector arrival))

abbrev pub link_of : Node × Port → Link
link_of l = (l.0.0, l.1.0)
