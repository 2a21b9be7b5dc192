-- `helix::free_front` meets its contract: the links that are still to come give the whole path.
use mathlib.Core.Path.{ap, ◌∙◌}
use Rattle.cube.proofs.Order.{byte_vector}
use Rattle.paths.specs.LinksLeft.{links_offered}
use Rattle.table.specs.View.{view}
use Rattle.answers.proofs.PassOnBytes.{told_free, told_busy}
use Rattle.helix.proofs.Following.{starts_inside, few_links, looking_first, looking_over, looking_stopped, looking_on}
use Rattle.helix.proofs.free_front.Goals as goal

pub new-node-items-requires : goal.new-node-items-requires
new-node-items-requires g c =
    let may = c.requires.may_follow in
    record { source_inside = starts_inside may; target_inside = byte_vector may.fits may.target }

pub loop-node-init : goal.loop-node-init
loop-node-init g c =
    let f = g.B.Board.fold in
    looking_first (few_links c.requires.may_follow) (ap (λ i. links_offered (f i.board) i.node.0 i.target.0 i.offered i.arrival.0) c.into_iter-node-iterator.ensures.into_iter_gives ∙ c.new-node-items.ensures)

pub loop-node-preserved : goal.loop-node-preserved
loop-node-preserved g c =
    looking_on c.loop-node.invariant c.in-Some.ensures.steps.0 (told_free (view c.args.t.now) c.in-Some.node.0 c.in-Some.port.0 c.link_state.ensures c.in-Free.is)

pub returns-in_default : goal.returns-in_default
returns-in_default g c =
    looking_stopped c.loop-node.invariant c.in-Some.ensures.steps.0 (told_busy (view c.args.t.now) c.in-Some.node.0 c.in-Some.port.0 _ c.link_state.ensures c.in_default.not-Free)

pub returns : goal.returns
returns g c = looking_over c.loop-node.invariant c.in-None.ensures.steps.0.0
