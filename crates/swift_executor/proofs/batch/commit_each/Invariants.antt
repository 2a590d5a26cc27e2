use Rattle.swift_executor.proofs.Prelude.{◌≡◌, AllByRecursion, map, job_facts, facts_of, IsJobOf, IsInRun}
use Rattle.swift_shared_book.specs.Shared.{IsAsTaken}
use Rattle.swift_executor.specs.BatchInside.{Batch, IsBatch, between}
use Rattle.swift_executor.proofs.Batches.{StandsAt}
use Rattle.swift_executor.proofs.batch.commit_each.Given as goal

abbrev pub invariant-loop-at : goal.invariant-loop-at
invariant-loop-at l = record {
  untouched : IsAsTaken l.book l.taken.seat l.taken.book.value;
  run : IsInRun l.taken.seat.knows (facts_of l.taken.book.value);
  lock : l.jobs.book ≡ l.initial.jobs.book;
  bodies : AllByRecursion (IsJobOf l.book.script) l.initial.jobs.jobs → AllByRecursion (IsJobOf l.book.script) l.jobs.jobs;
  same : l.at ≡ 0 → l.jobs ≡ l.initial.jobs;
  stands : (g : Batch) → IsBatch l.worker l.book l.ready l.initial.taken.seat.knows l.initial.is_orderly (between 0 l.many l.initial.asides) g
      → StandsAt l.book l.worker l.at l.last (map job_facts l.initial.jobs.jobs) (map job_facts l.jobs.jobs) g l.taken.seat.knows l.is_orderly (between l.at l.many l.asides);
}
