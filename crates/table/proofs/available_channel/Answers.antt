-- `table::available_channel` meets its contract: the lowest of the channels that are nobody's and armed.
use mathlib.Core.Path.{◌∙◌, ap}
use Rattle.common.specs.SomeBelow.{some_below}
use Rattle.table.specs.View.{view}
use Rattle.table.proofs.Rows.{lowest_bit}
use Rattle.table.proofs.available_channel.Goals as goal

pub returns : goal.returns
returns g c = c.lowest_of.ensures ∙ ap (some_below 8) (lowest_bit (view c.args.t.now) c.args.n.0 c.available.result c.available.ensures.bits)
