-- `table::none_held` meets its contract: rows whose bytes are zero hold nothing.
use Rattle.std.proofs.Common.{arith}
use borrow.Author.Tests.{eqb-true}
use Rattle.layout.proofs.Entries.{rows_zero}
use Rattle.table.proofs.none_held.Goals as goal

pub returns : goal.returns
returns g c =
    let laws = g.met.H.Resource.laws in
    let b = c.args.t.now in
    λ z. rw (laws.owner_is b c.requires.0) (rows_zero b g.H.Resource.ROWS c.args.n.0 c.args.nodes laws.width_is (omega (arith, laws.rows_inside)) (omega arith) (rw (← c.node_rows.ensures) c.or_bytes.ensures) (eqb-true _ 0 z))
