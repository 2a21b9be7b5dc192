-- `receiver::Channel::take_word` meets its contract: what reading answers, then 30, then what the command does.
use Rattle.std.proofs.Common.{◌≡◌, Err, sym, ap, rules}
use Rattle.common.specs.declared.refusal.Refusal.TheVariants.{ChannelStopped}
use Rattle.common.proofs.Refusals.{refused}
use Rattle.command_word.specs.Word.{WordRead}
use Rattle.receiver.proofs.Steps.{word_unread, word_stopped, word_taken}
use Rattle.receiver.proofs.Channel.take_word.Goals as goal

pub returns-in_err-read : goal.returns-in_err-read
returns-in_err-read c =
    let e : c.from_residual.result ≡ Err c.in_err-read.field-0.0 = search rules in
    rw e (word_unread _ _ _ (ap (λ (r : WordRead). r.number) c.in_err-read.ensures) (refused c.in_err-read.field-0.0))

pub returns-in_err-not_stopped : goal.returns-in_err-not_stopped
returns-in_err-not_stopped c =
    let e : c.from_residual-in_err-not_stopped.result ≡ Err ChannelStopped = search rules in
    rw e (word_stopped _ _ (sym (ap (λ (r : WordRead). r.number) c.in_ok-read.ensures)) c.in_err-not_stopped.ensures.1)

pub returns : goal.returns
returns c =
    word_taken
    _
    _
    _
    _
    (sym (ap (λ (r : WordRead). r.number) c.in_ok-read.ensures))
    (ap (λ (r : WordRead). r.command) c.in_ok-read.ensures)
    c.in_ok-not_stopped.ensures.1
    (rw c.in_ok-not_stopped.ensures.0 at c.obey.ensures)
