-- `circuit_path::some_held` meets its contract: a port of the vector that the circuit holds.
use native.Mathlib.Nat.{lt_of_le_of_lt}
use lib.Bits.{and_le_l}
use Rattle.table.specs.View.{view, held_by}
use Rattle.circuit_path.proofs.Hops.{any_and}
use Rattle.circuit_path.proofs.some_held.Goals as goal

pub returns : goal.returns
unfolding view
returns g c =
    let held = c.ports_held.ensures in
    any_and g.L.Layout.PORTS c.ports_held.result c.args.vector (held_by (view c.args.t.now) c.args.c.0 c.args.n.0) held.small held.held (lt_of_le_of_lt (and_le_l c.ports_held.result c.args.vector) held.small)
