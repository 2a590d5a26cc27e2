use Rattle.swift_workers.proofs.Prelude.{◌≡◌, length, AllByRecursion, IsJobOf, AreDesksOf}
use Rattle.swift_workers.proofs.sending.send_all.Given as goal

abbrev pub invariant-loop-job : goal.invariant-loop-job
invariant-loop-job g l = record {
  desks : AreDesksOf l.crew.execs.now l.hand.desks.items;
  book : l.hand.jobs.book ≡ l.crew.book.now.id;
  jobs : AllByRecursion (IsJobOf l.crew.script.now) l.hand.jobs.jobs;
}

abbrev pub decreases-loop-job : goal.decreases-loop-job
decreases-loop-job g l = length l.hand.jobs.jobs
