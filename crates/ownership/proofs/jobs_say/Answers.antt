-- `ownership::jobs_say` meets its contract: it is the theorem.
use Rattle.ownership.proofs.JobSays.{job_says}
use Rattle.ownership.proofs.jobs_say.Goals as goal

pub returns : goal.returns
returns c = job_says
