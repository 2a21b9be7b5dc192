-- `job::open_in_turn` meets its contract: what the list comes to is what the sends from a place on come to, behind those before it, which were acknowledged.
use mathlib.Core.Path.{◌≡◌}
use Rattle.common.specs.Tests.{refusal}
use Rattle.table.specs.Encode.{AllBytes}
use Rattle.soundness.specs.TableTests.{table_tests}
use Rattle.ownership.specs.Sends.{sends_in}
use Rattle.ownership.specs.InTurn.{in_turn}
use Rattle.ownership.specs.JobSays.{opens_on}
use Rattle.job.proofs.SendsInTurn.{sends_from, further}
use Rattle.job.proofs.open_in_turn.Given as goal

abbrev pub invariant-loop-place : goal.invariant-loop-place
invariant-loop-place g l =
    record {
      passes : refusal (table_tests g.L.Layout.PORTS l.t) ≡ 0;
      small : AllBytes l.t;
      left : in_turn (opens_on g.L.Layout.PORTS) l.initial.t (sends_in l.sends) ≡ further l.place (in_turn (opens_on g.L.Layout.PORTS) l.t (sends_from l.sends l.place));
    }
