-- `table::make` meets its contract: the masks of the nodes before n are written.
use Prim.Native.Nat.{ℕ, ◌<◌}
use lib.ListN.{get_or}
use Rattle.table.proofs.Making.{Making}
use Rattle.table.proofs.make.Given as goal

abbrev pub invariant-loop-n : goal.invariant-loop-n
invariant-loop-n g l = Making g.L.Layout.PORTS g.L.Layout.ENABLE g.L.Layout.LENGTH l.dimension l.n l.t × ((i : ℕ) → get_or l.t i 0 < 256)
