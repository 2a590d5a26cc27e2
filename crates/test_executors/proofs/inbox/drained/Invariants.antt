use Rattle.std.proofs.Common.{vec_len}
use Rattle.test_executors.proofs.inbox.drained.Given as goal

abbrev pub decreases-loop-job : goal.decreases-loop-job
decreases-loop-job g l = vec_len l.list
