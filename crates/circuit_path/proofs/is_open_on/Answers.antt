-- `circuit_path::is_open_on` meets its contract: it holds a link out of its source.
use mathlib.Core.Path.{◌∙◌}
use native.Mathlib.Nat.{lt_of_lt_of_le}
use lib.Pow.{pow_mono}
use native.Mathlib.Omega.{arith}
use Rattle.layout.specs.Resources.{width_least}
use Rattle.table.specs.View.{view}
use Rattle.circuit_path.proofs.Examine.{open_vector, source_within}
use Rattle.circuit_path.proofs.is_open_on.Goals as goal

pub some_held-requires : goal.some_held-requires
some_held-requires g c = (source_within (omega (arith, width_least g.met.L.Layout.laws.ports_are)) c.requires.has_source c.source_of.ensures, lt_of_lt_of_le c.cube_ports.ensures.1 (pow_mono c.requires.board_here.row))

pub returns : goal.returns
unfolding view
returns g c =
    c.some_held.ensures ∙ open_vector (view c.args.t.now) c.requires.has_source.fits c.args.c.0 c.requires.board_here c.cube_ports.ensures c.source_of.ensures
