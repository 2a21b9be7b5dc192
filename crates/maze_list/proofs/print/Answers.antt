-- What was written of the list is within the output.
use Rattle.std.proofs.Common.{arith}
use Rattle.std.proofs.lemmas.List.{length-take}
use Rattle.listing.proofs.Remaining.{written_within}
use Rattle.maze_list.proofs.print.Goals as goal

pub slice_bounds-write_all-end : goal.slice_bounds-write_all-end
slice_bounds-write_all-end g c =
    omega (arith, c.unwrap_or-written.ensures, written_within _ _ _ _ c.list.ensures c.list.auto.output)

pub slice_bounds-write_all-end-2 : goal.slice_bounds-write_all-end-2
slice_bounds-write_all-end-2 g c =
    omega (arith, c.unwrap_or-written.ensures, written_within _ _ _ _ c.list.ensures c.list.auto.output, length-take c.unwrap_or-written.result c.list.new.output)
