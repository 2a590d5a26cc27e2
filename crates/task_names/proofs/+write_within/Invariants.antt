use Rattle.task_names.proofs.+write_within.Given as goal

abbrev pub decreases-write_within : goal.decreases-write_within
decreases-write_within l = l.tasks
