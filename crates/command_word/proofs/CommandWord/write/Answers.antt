-- `command_word::CommandWord::write` meets its contract: each return has decided the tests up to its own.
use mathlib.Core.Path.{◌≡◌, refl, ◌∙◌, ap}
use mathlib.Core.Logic.{⊎_elim}
use native.Mathlib.Omega.{arith}
use Rattle.std.proofs.Common.{rules, Err}
use Rattle.common.specs.declared.refusal.Refusal.TheVariants.{ReservedCommand}
use Rattle.command_word.specs.Commands.{values}
use Rattle.command_word.specs.Reasons.{above_15, reserved_number, too_much, writable}
use Rattle.common.proofs.Tests.{below_or}
use Rattle.command_word.proofs.Answers.{write_refused, write_accepted}
use Rattle.command_word.proofs.Named.{command_small}
use Rattle.command_word.proofs.CommandWord.write.Goals as goal

pub returns-in_err-named : goal.returns-in_err-named
returns-in_err-named c =
    let e : c.from_residual.result ≡ Err ReservedCommand = search rules in
    rw e
    (⊎_elim (λ l. write_refused _ _ 18 (reserved_number (omega arith) c.in_err-named.ensures.1) refl) (λ l. write_refused _ _ 18 (above_15 (omega arith)) refl) (below_or 16 c.args.command))

pub returns-then-carried-values : goal.returns-then-carried-values
returns-then-carried-values c =
    let count : c.values.result ≡ values c.args.command = c.values.ensures.0 ∙ ap values c.in_ok-named.ensures in
    write_refused _ _ 19 (too_much (command_small c.args.command (omega arith)) (λ z. omega arith) (omega arith)) refl

pub returns : goal.returns
returns c =
    let count : c.values.result ≡ values c.args.command = c.values.ensures.0 ∙ ap values c.in_ok-named.ensures in
    write_accepted _ _ _ (writable (command_small c.args.command (omega arith)) (omega arith)) (rw c.in_ok-named.ensures at c.new.ensures)
