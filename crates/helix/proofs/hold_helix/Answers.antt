-- `helix::hold_helix` meets its contract: once no link is still to come, the bytes are those of the whole path.
use mathlib.Core.Path.{ap, sym, ◌∙◌}
use Rattle.std.specs.List.{fold}
use Rattle.cube.proofs.Order.{byte_vector}
use Rattle.paths.specs.LinksLeft.{links_offered}
use Rattle.helix.proofs.Following.{starts_inside}
use Rattle.helix.specs.HelixContracts.{hold_link}
use Rattle.helix.proofs.hold_helix.Goals as goal

pub new-node-items-requires : goal.new-node-items-requires
new-node-items-requires g c =
    let may = c.requires.may_follow in
    record { source_inside = starts_inside may; target_inside = byte_vector may.fits may.target }

pub returns : goal.returns
returns g c =
    let f = g.B.Board.fold in
    let hold = fold (hold_link c.args.request.circuit.0) in
    ap (hold c.loop-node.t) (sym c.in-None.ensures.steps.0.0) ∙ c.loop-node.invariant.1
    ∙ ap (λ i. hold c.args.t.now (links_offered (f i.board) i.node.0 i.target.0 i.offered i.arrival.0)) c.into_iter-node-iterator.ensures.into_iter_gives ∙ ap (hold c.args.t.now) c.new-node-items.ensures
