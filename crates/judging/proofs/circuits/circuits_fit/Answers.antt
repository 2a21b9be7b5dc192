-- `judging::circuits::circuits_fit` meets its contract: each line that is read lies inside the buffer, and its circuit is tested.
use mathlib.Core.Path.{sym, ◌∙◌}
use native.Mathlib.Omega.{arith}
use Rattle.judging.specs.JudgeContracts.{LineInside}
use Rattle.judging.proofs.LinesInside.{of_next, of_rest, ports_long, all_behind}
use Rattle.judging.proofs.circuits.circuits_fit.Goals as goal

pub path-requires : goal.path-requires
path-requires g c = (of_next (LineInside c.args.ports.now) c.in-Some.ensures.steps c.loop-line.invariant.inside).inside

pub circuit_fits-requires : goal.circuit_fits-requires
circuit_fits-requires g c =
    let x = of_next (LineInside c.args.ports.now) c.in-Some.ensures.steps c.loop-line.invariant.inside in
    (x.least, rw c.path.ensures (omega (arith, ports_long x, x.some)))

pub loop-line-preserved : goal.loop-line-preserved
loop-line-preserved g c = record {
  inside = of_rest (LineInside c.args.ports.now) c.in-Some.ensures.steps c.loop-line.invariant.inside;
  rest = all_behind _ _ c.in-Some.ensures.steps (rw c.path.ensures at (sym c.circuit_fits.ensures ∙ c.if-not-circuit_fits.false)) ∙ c.loop-line.invariant.rest;
}
