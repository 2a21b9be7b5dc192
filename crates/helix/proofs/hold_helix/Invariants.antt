-- `helix::hold_helix` meets its contract: the links that are still to come give the bytes of the whole path.
use Rattle.std.proofs.Common.{◌≡◌, length}
use Rattle.std.specs.List.{fold}
use Rattle.paths.specs.LinksLeft.{links_offered}
use Rattle.helix.specs.HelixContracts.{hold_link}
use Rattle.helix.proofs.hold_helix.Given as goal

abbrev pub invariant-loop-node : goal.invariant-loop-node
invariant-loop-node g l =
    let path = l.node-iterator in
    let start = l.initial.node-iterator in
    (length l.t ≡ length l.initial.t)
    × (fold (hold_link l.request.circuit.0) l.t (links_offered (g.B.Board.fold path.board) path.node.0 path.target.0 path.offered path.arrival.0)
    ≡ fold (hold_link l.request.circuit.0) l.initial.t (links_offered (g.B.Board.fold start.board) start.node.0 start.target.0 start.offered start.arrival.0))
