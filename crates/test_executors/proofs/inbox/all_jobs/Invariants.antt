use Rattle.std.proofs.Common.{◌≡◌}
use Rattle.test_executors.proofs.inbox.all_jobs.Given as goal

abbrev pub invariant-loop-root : goal.invariant-loop-root
invariant-loop-root g l = l.jobs.book ≡ l.booked
