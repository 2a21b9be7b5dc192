-- `listing::whole::rows` meets its contract: what is left to write behind what was written are the lines of the input.
use Rattle.layout.specs.Layout.{wide_ports}
use Rattle.std.proofs.Common.{◌≡◌, ◌+◌, length, drop}
use Rattle.text.specs.Lines.{lines}
use Rattle.text.specs.Row.{rows_text}
use Rattle.text.proofs.Writing.{Left}
use Rattle.listing.specs.Listing.{rows}
use Rattle.ownership.specs.OnTable.{table_step}
use Rattle.listing.proofs.whole.rows.Given as goal

abbrev pub invariant-loop-line : goal.invariant-loop-line
invariant-loop-line l =
    let k = length l.yielded in
    (goal.iterator-loop-line).can_next l.line-iterator
    × (goal.iterator-loop-line).is_finite l.line-iterator
    × (length l.t ≡ length l.initial.t)
    × Left l.initial.out l.at (rows_text (rows (table_step wide_ports) l.initial.t 1 (lines l.input))) l.out l.end (rows_text (rows (table_step wide_ports) l.t (k + 1) (drop k (lines l.input))))
