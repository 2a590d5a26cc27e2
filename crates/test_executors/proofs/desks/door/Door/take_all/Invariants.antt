use Rattle.std.proofs.Common.{◌≡◌, Some}
use Rattle.test_executors.proofs.desks.door.Door.take_all.Given as goal

abbrev pub invariant-taking : goal.invariant-taking
invariant-taking g l = Some l.jobs.book ≡ g.K.BookOf.lock
