-- What the functions that carry out an input line answer.
-- Assumes nothing.
use Rattle.std.specs.Prelude.{◌≡◌, List, ℕ}
use Rattle.std.proofs.Math.Option.{Option}
use Rattle.layout.specs.Layout.{wide_ports}
use Rattle.ownership.specs.Calls.{Call}
use Rattle.ownership.specs.OnTable.{table_step}
use Rattle.text.specs.Written.{row_of}
use Rattle.text.specs.declared.row.Row.{Row}
use Rattle.printed_line.specs.PrintedLine.{row_for, state_after}

-- What an input line asks was carried out on a wide table b: the fields of its printed line n, given beside a buffer of ports, and the table afterwards.
pub record Answered (b : List ℕ) (n : ℕ) (a : Option Call) (ports : List ℕ) (r : Row) (after : List ℕ) : Type 0 where
  pub row : row_of ports r ≡ row_for (table_step wide_ports) b n a
  pub table : after ≡ state_after (table_step wide_ports) b a
