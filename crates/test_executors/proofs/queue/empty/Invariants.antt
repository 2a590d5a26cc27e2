use Rattle.std.proofs.Common.{length}
use Rattle.test_executors.proofs.queue.empty.Given as goal

abbrev pub decreases-loop-taken : goal.decreases-loop-taken
decreases-loop-taken l = length l.queue.jobs
