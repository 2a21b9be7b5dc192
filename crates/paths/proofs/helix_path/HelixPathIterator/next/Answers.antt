-- The next link of a helix path: none at the target, and off it the first of the ports that are offered.
use mathlib.Core.Path.{ap, ◌∙◌}
use Rattle.std.proofs.Common.{rules, length, ◌<◌}
use Rattle.paths.specs.LinksLeft.{links_offered}
use Rattle.paths.proofs.LinksOffered.{links_over, link_inside, links_step, reached_inside, next_there, uphill_small}
use Rattle.paths.proofs.helix_path.HelixPathIterator.next.Goals as goal

pub returns-then-self-eq0-clause-steps : goal.returns-then-self-eq0-clause-steps
returns-then-self-eq0-clause-steps g c =
    let path = c.args.self.now in
    let f = g.B.Board.fold path.board in
    let over = ap (λ v. links_offered f path.node.0 path.target.0 v path.arrival.0) c.if-self-eq0.true ∙ links_over f path.node.0 path.target.0 path.arrival.0 in
    ((over, over), tt)

pub neighbour-self-requires : goal.neighbour-self-requires
neighbour-self-requires g c = let path = c.args.self.now in (c.first_port-port.ensures.tried g.B.Board.width path.offered_there.below).small

pub with_partners-self-requires : goal.with_partners-self-requires
with_partners-self-requires g c =
    let path = c.args.self.now in
    uphill_small g.met.B.Board.laws.most path.node_inside path.target_inside path.offered_there c.first_port-port.ensures c.neighbour-self.ensures c.uphill_vector.ensures.value c.from-uphill.ensures

pub invariant_of-self : goal.invariant_of-self
invariant_of-self g c =
    let path = c.args.self.now in
    let inside = link_inside g.met.B.Board.laws.most path.node_inside path.target_inside path.offered_there c.first_port-port.ensures in
    let partners = rw (c.from-uphill.ensures, c.uphill_vector.ensures.value) at c.with_partners-self.ensures in
    record {
      node_inside = reached_inside g.met.B.Board.laws.most path.node_inside path.target_inside path.offered_there c.first_port-port.ensures c.neighbour-self.ensures;
      offered_there = next_there g.met.B.Board.laws.most path.node_inside path.target_inside path.offered_there c.first_port-port.ensures c.neighbour-self.ensures partners.0 partners.1;
      arrival_inside = inside.1;
      target_inside = path.target_inside;
    }

pub returns-clause-steps : goal.returns-clause-steps
returns-clause-steps g c =
    let path = c.args.self.now in
    let partners = rw (c.from-uphill.ensures, c.uphill_vector.ensures.value) at c.with_partners-self.ensures in (
      links_step g.met.B.Board.laws.most path.node_inside path.target_inside path.offered_there c.first_port-port.ensures c.if-self-eq0.false c.neighbour-self.ensures partners.0,
      link_inside g.met.B.Board.laws.most path.node_inside path.target_inside path.offered_there c.first_port-port.ensures,
    )

pub returns-clause-goes : goal.returns-clause-goes
returns-clause-goes g c =
    let path = c.args.self.now in
    let partners = rw (c.from-uphill.ensures, c.uphill_vector.ensures.value) at c.with_partners-self.ensures in
    let shorter = ap length (links_step g.met.B.Board.laws.most path.node_inside path.target_inside path.offered_there c.first_port-port.ensures c.if-self-eq0.false c.neighbour-self.ensures partners.0) in
    search rules
