-- `circuit_hops::WideMarks::mark` meets its contract: the links are added to the number of the source.
use mathlib.Core.Path.{ap}
use lib.Bits.{bit_or}
use lib.ListN.{get_or, set}
use Rattle.circuit_hops.specs.Seen.{with_marks}
use Rattle.circuit_hops.proofs.marks.WideMarksMarks.mark.Goals as goal

pub returns-clause-newly_marked : goal.returns-clause-newly_marked
unfolding with_marks
returns-clause-newly_marked c e =
    let m = c.args.self.now.of_node in
    ap (λ i. set m i (bit_or (get_or m i 0) c.args.held)) c.from-at.ensures
