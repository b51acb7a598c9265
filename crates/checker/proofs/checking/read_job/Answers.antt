-- The call for the job number is made right behind the heading.
use Rattle.checker.proofs.Opening.{job_after}
use Rattle.checker.proofs.checking.read_job.Goals as goal

pub returns : goal.returns
returns c = job_after _ _ _ _ c.in_ok-heading.ensures.answered c.job.ensures.answered
