-- `helix::free_front` meets its contract: the links that are still to come give the whole path.
use Rattle.paths.specs.HelixLinks.{helix_links}
use Rattle.paths.specs.LinksLeft.{links_offered}
use Rattle.helix.proofs.Following.{Looking}
use Rattle.helix.proofs.free_front.Given as goal

abbrev pub invariant-loop-node : goal.invariant-loop-node
invariant-loop-node g l =
    let path = l.node-iterator in
    Looking l.t (helix_links (g.B.Board.fold l.fn.board) l.fn.request.source.0 l.fn.request.target.0 l.fn.port.0)
    (links_offered (g.B.Board.fold path.board) path.node.0 path.target.0 path.offered path.arrival.0) l.hops
