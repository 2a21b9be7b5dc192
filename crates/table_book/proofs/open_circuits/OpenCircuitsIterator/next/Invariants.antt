-- As it goes on from node to node what is left stays the same.
use Rattle.std.proofs.Common.{◌≡◌, ◌≤◌, ◌-◌}
use Rattle.table_book.specs.OpenLeft.{open_left}
use Rattle.table_book.proofs.open_circuits.OpenCircuitsIterator.next.Given as goal

abbrev pub invariant-loop-number : goal.invariant-loop-number
invariant-loop-number g l =
    record {
      same : l.self.bytes.now ≡ l.initial.self.bytes.now;
      rest : open_left l.initial.self.bytes.now l.initial.self.numbers ≡ open_left l.self.bytes.now l.self.numbers;
      rises : l.initial.self.numbers.start ≤ l.self.numbers.start;
    }

abbrev pub decreases-loop-number : goal.decreases-loop-number
decreases-loop-number g l = l.self.nodes.end - l.self.nodes.start
