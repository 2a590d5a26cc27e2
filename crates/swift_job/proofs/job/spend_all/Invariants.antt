use Rattle.std.proofs.Common.{length}
use Rattle.swift_job.proofs.job.spend_all.Given as goal

abbrev pub decreases-loop-job : goal.decreases-loop-job
decreases-loop-job g l = length l.jobs.items
