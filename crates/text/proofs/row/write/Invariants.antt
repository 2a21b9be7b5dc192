-- `text::row::write` meets its contract: what is left to write behind what was written are the fields, each behind a space.
use mathlib.Core.List.{map}
use lib.ListN.{drop}
use Rattle.text.specs.Written.{field_of}
use Rattle.text.proofs.Rows.{behind_spaces}
use Rattle.text.proofs.Writing.{Left}
use Rattle.text.proofs.row.write.Given as goal

abbrev pub invariant-loop-field : goal.invariant-loop-field
invariant-loop-field l =
    Left l.initial.out l.initial.end (behind_spaces (map (field_of l.ports) l.field-items)) l.out l.end (behind_spaces (map (field_of l.ports) (drop l.field-index l.field-items)))
