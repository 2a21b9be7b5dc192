-- `circuit_hops::ByteMarks::mark` meets its contract: the links are added to the byte of the source.
use mathlib.Core.Path.{ap, ap₂, ◌∙◌}
use lib.Bits.{bit_or}
use lib.ListN.{get_or, set}
use Rattle.circuit_hops.specs.Seen.{with_marks}
use Rattle.circuit_hops.proofs.marks.ByteMarksMarks.mark.Goals as goal

pub returns-clause-newly_marked : goal.returns-clause-newly_marked
unfolding with_marks
returns-clause-newly_marked c e =
    let m = c.args.self.now.of_node in
    ap₂ (λ i x. set m i (bit_or x c.args.held)) c.from-at.ensures (c.from-old.ensures ∙ ap (λ i. get_or m i 0) c.from-at.ensures)
