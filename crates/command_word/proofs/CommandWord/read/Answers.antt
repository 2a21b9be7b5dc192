-- `command_word::CommandWord::read` meets its contract: each return has decided the tests up to its own.
use mathlib.Core.Path.{◌≡◌, refl, ◌∙◌, sym, ap, ap₂}
use Prim.Native.Nat.{◌%◌, ◌<◌, ◌≤◌}
use native.Mathlib.Omega.{arith}
use denote.Enum.Bare.{differs_true, differs_false}
use Rattle.std.proofs.Common.{rules, Err}
use Rattle.common.specs.declared.refusal.Refusal.TheVariants.{ReservedCommand}
use Rattle.command_word.specs.contracts.kinds.PacketType.{the_type}
use Rattle.command_word.specs.Commands.{type_of, type_for, values}
use Rattle.command_word.specs.Kinds.{packet_type_number}
use Rattle.command_word.specs.Reasons.{too_large, no_command, wrong_type, reserved_command, readable}
use Rattle.command_word.proofs.Answers.{read_refused, read_accepted}
use Rattle.command_word.proofs.Named.{same_number}
use Rattle.command_word.proofs.CommandWord.read.Goals as goal

pub returns-then-word-gt-LARGEST : goal.returns-then-word-gt-LARGEST
returns-then-word-gt-LARGEST c = read_refused _ 15 (too_large (omega arith)) refl

pub returns-then-not-carries_commands : goal.returns-then-not-carries_commands
returns-then-not-carries_commands c = let small : type_of c.args.word ≤ 1 = search rules in read_refused _ 16 (no_command (omega arith) small) refl

pub returns-then-ne : goal.returns-then-ne
returns-then-ne c =
    let large : 1 < type_of c.args.word = search rules in
    read_refused _ 17 (wrong_type (omega arith) large (λ e. differs_true the_type _ _ (sym c.if-ne.ensures) (same_number (c.packet_type-packet_type.ensures ∙ e ∙ sym (c.of_command.ensures ∙ ap type_for c.command.ensures))))) refl

pub returns-in_err-command : goal.returns-in_err-command
returns-in_err-command c =
    let large : 1 < type_of c.args.word = search rules in
    let goes = sym c.packet_type-packet_type.ensures ∙ ap packet_type_number (differs_false the_type (search rules) _ _ (sym c.if-ne.ensures)) ∙ c.of_command.ensures ∙ ap type_for c.command.ensures in
    let none = sym (ap values c.command-2.ensures) ∙ c.in_err-command.ensures.1 in
    let e : c.from_residual.result ≡ Err ReservedCommand = search rules in
    rw e (read_refused _ 18 (reserved_command (omega arith) large goes none) refl)

pub returns : goal.returns
returns c =
    let large : 1 < type_of c.args.word = search rules in
    let goes = sym c.packet_type-packet_type.ensures ∙ ap packet_type_number (differs_false the_type (search rules) _ _ (sym c.if-ne.ensures)) ∙ c.of_command.ensures ∙ ap type_for c.command.ensures in
    let same = c.in_ok-command.ensures ∙ c.command-2.ensures in
    let count = c.values.ensures.0 ∙ ap values same in
    read_accepted _ _ _ (readable (omega arith) large goes (λ e. omega (arith, count, e))) same (ap₂ ◌%◌ c.status.ensures count)
