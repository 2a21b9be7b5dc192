-- `judging::links::links_fit` meets its contract: where the links of the lines left are used, those of all lines fit.
use mathlib.Core.Bool.{true, false}
use Rattle.table.specs.View.{view}
use Rattle.judging.specs.Judged.{all_links}
use Rattle.judging.proofs.CubeLines.{first_line_in, other_lines_in, source_in, ports_in}
use Rattle.judging.proofs.UsingLinks.{uses_none, uses_both, uses_refused, uses_from_none, line_links}
use Rattle.judging.proofs.links.links_fit.Goals as goal

pub loop-line-init : goal.loop-line-init
loop-line-init g c = rw c.into_iter-line-iterator.ensures.into_iter_gives (record { in_cube = c.requires; goes_on = λ new r. uses_from_none c.new-used.ensures })

pub source_of-source-requires : goal.source_of-source-requires
source_of-source-requires g c = (first_line_in c.in-Some.ensures.steps c.loop-line.invariant.in_cube).line.least

pub path-requires : goal.path-requires
path-requires g c = (first_line_in c.in-Some.ensures.steps c.loop-line.invariant.in_cube).line.inside

pub use_path-requires-clause-inside : goal.use_path-requires-clause-inside
unfolding view
use_path-requires-clause-inside g c = source_in (first_line_in c.in-Some.ensures.steps c.loop-line.invariant.in_cube) c.source_of-source.ensures

pub use_path-requires-clause-ports : goal.use_path-requires-clause-ports
use_path-requires-clause-ports g c = ports_in (first_line_in c.in-Some.ensures.steps c.loop-line.invariant.in_cube) c.path.ensures

pub returns-then-not-use_path : goal.returns-then-not-use_path
returns-then-not-use_path g c = c.loop-line.invariant.goes_on c.use_path.new.used.of_node false
    (rw (line_links _ _ c.in-Some.ensures.steps c.source_of-source.ensures c.path.ensures) (uses_refused _ c.if-not-use_path.ensures))

pub loop-line-preserved : goal.loop-line-preserved
loop-line-preserved g c =
    record {
      in_cube = other_lines_in c.in-Some.ensures.steps c.loop-line.invariant.in_cube;
      goes_on = λ new r h. c.loop-line.invariant.goes_on new r
          (rw (line_links _ _ c.in-Some.ensures.steps c.source_of-source.ensures c.path.ensures) (uses_both _ c.if-not-use_path.ensures h));
    }

pub returns : goal.returns
unfolding all_links
returns g c = c.loop-line.invariant.goes_on c.loop-line.used.of_node true (rw c.in-None.ensures.steps.0 uses_none)
