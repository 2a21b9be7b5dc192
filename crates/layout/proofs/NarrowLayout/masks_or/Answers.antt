-- `layout::NarrowLayout::masks_or` meets its contract: the masks are the bytes of a run.
use Prim.Native.Nat.{◌+◌, ◌-◌}
use native.Mathlib.Omega.{arith}
use Rattle.layout.proofs.Masks.{or_run}
use Rattle.layout.proofs.NarrowLayout.masks_or.Goals as goal

pub returns : goal.returns
returns c =
    rw c.from-3.ensures
    (or_run 1 c.args.t.now c.args.from c.args.to (1 + c.from.result) (1 + c.from-2.result - (1 + c.from.result)) (omega arith) (omega arith) c.requires.1 (omega arith) c.or_bytes.ensures)
