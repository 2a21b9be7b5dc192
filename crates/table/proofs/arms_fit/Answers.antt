-- `table::arms_fit` meets its contract: no channel is armed behind the cube's nodes.
use mathlib.Core.Path.{◌∙◌}
use Prim.Native.Nat.{◌+◌, ◌-◌}
use native.Mathlib.Omega.{arith}
use Rattle.table.proofs.Fits.{arms_fit}
use Rattle.table.proofs.arms_fit.Goals as goal

pub returns : goal.returns
returns g c =
    arms_fit g.met.L.Layout.laws c.args.t.now c.args.dimension c.node_count.result (c.ARMS.result + c.from.result) (c.ARMS-2.result + 256 - (c.ARMS.result + c.from.result)) c.node_count.ensures.value c.node_count.ensures.most c.requires.0
    (omega arith) (omega arith) c.or_bytes.ensures
