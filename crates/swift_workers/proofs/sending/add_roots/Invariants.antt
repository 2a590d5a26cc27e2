use Rattle.swift_workers.proofs.Prelude.{◌≡◌, Some, AllByRecursion, executor_count, root_count, IsSeatOf, IsJobOf}
use Rattle.swift_workers.proofs.sending.add_roots.Given as goal

abbrev pub invariant-loop-place : goal.invariant-loop-place
invariant-loop-place g l = record {
  seat : IsSeatOf l.book l.seat;
  maker : l.seat.knows.maker ≡ Some (record { executors = executor_count l.script; roots = l.place });
  book : l.jobs.book ≡ l.book.id;
  jobs : AllByRecursion (IsJobOf l.script) l.jobs.jobs;
  end : l.place-end ≡ root_count l.script;
}
