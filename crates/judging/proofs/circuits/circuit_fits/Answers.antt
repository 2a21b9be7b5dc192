-- `judging::circuits::circuit_fits` meets its contract: the source is tested, and then the path.
use mathlib.Core.Path.{ap, sym, ◌∙◌}
use mathlib.Core.Bool.{not}
use native.Mathlib.Omega.{arith}
use Rattle.table.specs.View.{view}
use Rattle.judging.proofs.CircuitFits.{source_outside, path_decides}
use Rattle.judging.proofs.circuits.circuit_fits.Goals as goal

pub returns-then-source_of-table : goal.returns-then-source_of-table
unfolding view
returns-then-source_of-table g c = source_outside (view c.args.table.now.bytes.now) _ _ c.requires.0 c.source_of.ensures (omega (arith, c.args.table.now.count))

pub returns-then-path_fits : goal.returns-then-path_fits
unfolding view
returns-then-path_fits g c =
    ap not c.is_open.ensures
    ∙ path_decides (view c.args.table.now.bytes.now) _ _ c.requires.0 c.source_of.ensures (omega (arith, c.args.table.now.count)) (sym c.if-path_fits.true ∙ c.path_fits.ensures)

pub returns-else-path_fits : goal.returns-else-path_fits
unfolding view
returns-else-path_fits g c =
    c.if-path_fits.false
    ∙ path_decides (view c.args.table.now.bytes.now) _ _ c.requires.0 c.source_of.ensures (omega (arith, c.args.table.now.count)) (sym c.if-path_fits.false ∙ c.path_fits.ensures)
