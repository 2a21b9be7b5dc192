-- The writer gains the printed list of all that the reader had.
use Rattle.std.proofs.Common.{lit<}
use Rattle.maze_list.proofs.Whole.{whole_listed, zeros_long, wide_enough, ok_is, on_ok}
use Rattle.maze_list.specs.declared.Failed.{Failed}
use Rattle.maze_list.proofs.list_all.Goals as goal

pub returns-clause-listed : goal.returns-clause-listed
returns-clause-listed g c =
    let ok = ok_is Failed c.read_all.result c.in_ok-bytes.bytes c.in_ok-bytes.ensures.cases (λ e h. h) in
    let within = rw ok at c.read_all.ensures.within in
    let bytes = rw ok at c.read_all.ensures.bytes in
    let end = rw ok at c.read_all.ensures.end in
    on_ok c.print.result c.map_err-2.result c.map_err-2.ensures.variant c.print.ensures.written
    (whole_listed _ _ _ _ _ _ _ _ _ (zeros_long 60001 60000 (lit< tt)) c.read_all.auto.input (wide_enough _ c.room-output.ensures) within bytes end c.print.ensures.listed)
