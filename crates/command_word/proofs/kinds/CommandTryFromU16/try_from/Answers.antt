-- `command_word::kinds::CommandTryFromU16::try_from` meets its contract: a number that is none of the twelve is reserved.
use mathlib.Core.Path.{refl}
use native.Mathlib.Omega.{arith}
use Rattle.command_word.proofs.Named.{no_command_has}
use Rattle.command_word.proofs.kinds.CommandTryFromU16.try_from.Goals as goal

pub returns-in_default : goal.returns-in_default
returns-in_default c =
    (refl, no_command_has c.args.number (λ e. omega arith) (λ e. omega arith) (λ e. omega arith) (λ e. omega arith) (λ e. omega arith) (λ e. omega arith) (λ e. omega arith) (λ e. omega arith) (λ e. omega arith) (λ e. omega arith) (λ e. omega arith) (λ e. omega arith))
