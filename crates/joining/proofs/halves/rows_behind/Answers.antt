-- `joining::halves::rows_behind` meets its contract: the rows have room, and are written where those of the first half end.
use mathlib.Core.Path.{◌∙◌, ap}
use Rattle.layout.specs.LayoutContracts.{node_rows}
use native.Mathlib.Omega.{arith}
use Rattle.layout.proofs.Parts.{part_long}
use Rattle.joining.proofs.Parts.{rows_have_room, rows_written}
use Rattle.joining.proofs.halves.rows_behind.Goals as goal

pub renumber_rows-requires : goal.renumber_rows-requires
renumber_rows-requires g c =
    let laws = g.met.H.Resource.laws in
    let narrow = c.requires.narrow.0 in
    let rows = c.node_rows-rows.ensures ∙ ap (λ w. node_rows w g.H.Resource.ROWS c.args.second.now 0 c.args.nodes) narrow in
    let r = rows_have_room c.args.second.now g.H.Resource.ROWS c.args.nodes (omega (arith, laws.rows_inside)) (omega arith) rows c.requires.fit in
    (part_long c.args.joined.now _ _ (omega (arith, laws.rows_inside, c.ROWS.ensures, r.0)) ∙ omega arith, r.1)

pub returns : goal.returns
returns g c =
    let laws = g.met.H.Resource.laws in
    let narrow = c.requires.narrow.0 in
    let rows = c.node_rows-rows.ensures ∙ ap (λ w. node_rows w g.H.Resource.ROWS c.args.second.now 0 c.args.nodes) narrow in
    let r = rows_have_room c.args.second.now g.H.Resource.ROWS c.args.nodes (omega (arith, laws.rows_inside)) (omega arith) rows c.requires.fit in
    rows_written c.args.second.now c.args.joined.now c.renumber_rows.new.to g.H.Resource.ROWS c.args.nodes (omega (arith, laws.rows_inside)) (omega (arith, laws.rows_inside)) (omega arith) rows
    (omega (arith, c.ROWS.ensures, r.0)) (omega (arith, r.0)) c.renumber_rows.auto.to c.renumber_rows.ensures
