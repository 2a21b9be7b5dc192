-- `table::available_count` meets its contract: the bits of the vector of available channels are as many as these.
use mathlib.Core.Path.{◌∙◌}
use Rattle.table.specs.View.{view}
use Rattle.table.proofs.Rows.{available_count, ones_kept}
use Rattle.table.proofs.available_count.Goals as goal

pub returns : goal.returns
returns g c = ones_kept _ c.available.ensures.small ∙ available_count (view c.args.t.now) c.args.n.0 c.available.result c.available.ensures.bits
