-- A path begins over the port that it is given.
use native.Mathlib.Omega.{arith}
use Prim.Native.Nat.{◌<◌}
use Rattle.cube.specs.Axes.{positions}
use Rattle.cube.proofs.Ports.{port_bit}
use Rattle.paths.proofs.LinksOffered.{links_begin, one_there}
use Rattle.paths.proofs.helix_path.HelixPath.new.Goals as goal

pub invariant_of-result : goal.invariant_of-result
invariant_of-result g c =
    let p = c.args.port.0 in
    let i = c.requires.source_inside in
    let few : p < positions = omega (arith, i.1, g.met.B.Board.laws.most) in
    record {
      node_inside = i.0;
      offered_there = one_there p p few (port_bit 32 p (omega (arith, few))) i.1 i.2;
      arrival_inside = i.1;
      target_inside = c.requires.target_inside;
    }

pub returns : goal.returns
returns g c =
    let p = c.args.port.0 in
    let few : p < positions = omega (arith, c.requires.source_inside.1, g.met.B.Board.laws.most) in
    links_begin p p few _ c.args.source.0 c.args.target.0 (port_bit 32 p (omega (arith, few)))
