-- `receiver::Channel::take_data` meets its contract: 30, or what a data packet does.
use Rattle.std.proofs.Common.{◌≡◌, Err, rules}
use Rattle.common.specs.declared.refusal.Refusal.TheVariants.{ChannelStopped}
use Rattle.receiver.proofs.Steps.{data_stopped, data_taken}
use Rattle.receiver.proofs.Channel.take_data.Goals as goal

pub returns-in_err-not_stopped : goal.returns-in_err-not_stopped
returns-in_err-not_stopped c =
    let e : c.from_residual.result ≡ Err ChannelStopped = search rules in
    rw e (data_stopped _ c.in_err-not_stopped.ensures.1)

pub returns : goal.returns
returns c = data_taken _ _ c.in_ok-not_stopped.ensures.1 (rw c.in_ok-not_stopped.ensures.0 at c.doubleword.ensures)
