-- What a job answers.
-- Assumes nothing.
use Rattle.std.specs.Prelude.{ℕ, Result, Ok, Err}
use Rattle.common.specs.Refusals.{number_of}
use Rattle.job.specs.declared.JobRefused.{JobRefused}

-- Jobs 5, Jobs 6: its number, 0 or that of the send that is refused,
abbrev pub job_number : Result ℕ JobRefused → ℕ
job_number (Ok sends) = 0
job_number (Err refused) = number_of refused.refusal

-- and beside it the number of its sends, or the place of the one that is refused.
abbrev pub job_sends : Result ℕ JobRefused → ℕ
job_sends (Ok sends) = sends
job_sends (Err refused) = refused.place
