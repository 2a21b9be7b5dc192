-- `printed_line::open` meets its contract.
use mathlib.Core.Path.{ap, ◌∙◌, refl}
use Rattle.std.proofs.Common.{take}
use Rattle.common.proofs.Refusals.{refused}
use Rattle.ownership.specs.Calls.{carries_scouts}
use Rattle.printed_line.proofs.Answers.{answered, with_scouts, with_path, refused_row, acknowledged_row, ports_are}
use Rattle.printed_line.proofs.open.Goals as goal

pub returns-in-Err : goal.returns-in-Err
returns-in-Err c =
    let w = c.args.ports.now in
    answered c.in-Err.ensures
    (ap (with_scouts _) (c.of_channel.ensures w) ∙ rw c.number.ensures (refused_row _ _ _ _ _ _ _ _ (c.scouts_of.ensures w) (refused c.in-Err.rejected.refusal)))

pub returns-in-Ok : goal.returns-in-Ok
unfolding carries_scouts
returns-in-Ok c =
    let w = c.trace.new.buffer in
    answered c.in-Ok.ensures
    (rw c.into.ensures (ap (with_path _ _ _) (c.of_channel-in-Ok.ensures w) ∙ acknowledged_row _ _ _ _ _ _ _ _ refl refl (ap (λ h. take h w) c.unwrap_or-hops.ensures ∙ ports_are _ _ c.requires c.trace.ensures)))
