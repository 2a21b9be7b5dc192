-- `judging::cube_board::cube_ports` meets its contract: the vector of all dimensions, with partners.
use mathlib.Core.Path.{ap, ◌∙◌}
use Prim.Native.Nat.{◌-◌}
use native.Mathlib.Omega.{arith}
use Rattle.cube.proofs.Ports.{most_nodes}
use Rattle.table.specs.View.{view, shape_of}
use Rattle.judging.proofs.PortsOfCube.{all_ports}
use Rattle.judging.proofs.cube_board.cube_ports.Goals as goal

pub with_partners-requires : goal.with_partners-requires
with_partners-requires g c = let table = c.args.table.now in omega (arith, c.from.ensures, table.count, most_nodes table.fits)

pub returns : goal.returns
unfolding view
returns g c =
    let table = c.args.table.now in
    all_ports (shape_of (view table.bytes.now)) table.fits c.board.ensures.1 c.board.ensures.2 (ap (λ n. n - 1) (c.from.ensures ∙ table.count)) c.with_partners.ensures.0 c.with_partners.ensures.1
