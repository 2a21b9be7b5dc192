-- `judging::targets::targets_fit` meets its contract: the targets of the lines left fit behind those counted exactly where all targets fit.
use native.Mathlib.Omega.{arith}
use Rattle.layout.specs.Resources.{width_least}
use Rattle.table.specs.View.{view, shape_of}
use Rattle.judging.proofs.CubeLines.{first_line_in, other_lines_in, ports_in, target_small}
use Rattle.judging.proofs.CountingTargets.{counting_none, counting_next, counting_full, counting_all, few_available, line_targets}
use Rattle.judging.proofs.targets.targets_fit.Goals as goal

pub loop-line-init : goal.loop-line-init
loop-line-init g c = rw c.into_iter-line-iterator.ensures.into_iter_gives (record { in_cube = c.requires; counting = counting_none c.new-counts.ensures })

pub source_of-source-requires : goal.source_of-source-requires
source_of-source-requires g c = (first_line_in c.in-Some.ensures.steps c.loop-line.invariant.in_cube).line.least

pub path-requires : goal.path-requires
path-requires g c = (first_line_in c.in-Some.ensures.steps c.loop-line.invariant.in_cube).line.inside

pub end_of-target-requires : goal.end_of-target-requires
end_of-target-requires g c = ports_in (first_line_in c.in-Some.ensures.steps c.loop-line.invariant.in_cube) c.path.ensures

pub available_count-requires : goal.available_count-requires
unfolding view
available_count-requires g c =
    let table = c.args.table.now in
    let line = first_line_in c.in-Some.ensures.steps c.loop-line.invariant.in_cube in
    record { bytes = table.long; node = target_small line table.fits c.source_of-source.ensures c.path.ensures c.end_of-target.ensures; port = omega (arith, width_least g.met.L.Layout.laws.ports_are) }

pub add-requires : goal.add-requires
unfolding view
add-requires g c =
    let table = c.args.table.now in
    let line = first_line_in c.in-Some.ensures.steps c.loop-line.invariant.in_cube in
    (target_small line table.fits c.source_of-source.ensures c.path.ensures c.end_of-target.ensures, rw c.available_count.ensures (few_available _))

pub returns-then-not-add : goal.returns-then-not-add
unfolding view
returns-then-not-add g c =
    let table = c.args.table.now in
    let line = first_line_in c.in-Some.ensures.steps c.loop-line.invariant.in_cube in
    let small = target_small line table.fits c.source_of-source.ensures c.path.ensures c.end_of-target.ensures in
    let targets = line_targets (shape_of (view table.bytes.now)) c.args.ports.now c.in-Some.ensures.steps c.source_of-source.ensures c.path.ensures c.end_of-target.ensures in
    counting_full small c.available_count.ensures (rw targets at c.loop-line.invariant.counting) c.if-not-add.ensures.has_room

pub loop-line-preserved : goal.loop-line-preserved
unfolding view
loop-line-preserved g c =
    let table = c.args.table.now in
    let line = first_line_in c.in-Some.ensures.steps c.loop-line.invariant.in_cube in
    let small = target_small line table.fits c.source_of-source.ensures c.path.ensures c.end_of-target.ensures in
    let targets = line_targets (shape_of (view table.bytes.now)) c.args.ports.now c.in-Some.ensures.steps c.source_of-source.ensures c.path.ensures c.end_of-target.ensures in
    record {
      in_cube = other_lines_in c.in-Some.ensures.steps c.loop-line.invariant.in_cube;
      counting = counting_next small c.available_count.ensures (rw targets at c.loop-line.invariant.counting) c.if-not-add.ensures.has_room (c.add.ensures.added c.if-not-add.false);
    }

pub returns : goal.returns
returns g c = counting_all (rw c.in-None.ensures.steps.0) c.loop-line.invariant.counting
