-- What carrying out an input line and writing its printed line comes to.
-- Assumes nothing.
use Rattle.std.specs.Prelude.{◌≡◌, List, ℕ}
use Rattle.std.proofs.Math.Option.{Option}
use Rattle.layout.specs.Layout.{wide_ports}
use Rattle.ownership.specs.Calls.{Call}
use Rattle.ownership.specs.OnTable.{table_step}
use Rattle.text.specs.Row.{row_text}
use Rattle.text.specs.Written.{Wrote}
use Rattle.printed_line.specs.PrintedLine.{row_for, state_after}

-- What an input line asks was carried out on a wide table b, and its printed line n was written from place i of an output on.
pub record WroteLine (b : List ℕ) (n : ℕ) (a : Option Call) (out : List ℕ) (i : ℕ) (after : List ℕ) (out' : List ℕ) (j : ℕ) : Type 0 where
  pub text : Wrote out i (row_text (row_for (table_step wide_ports) b n a)) out' j
  pub table : after ≡ state_after (table_step wide_ports) b a
