use Rattle.swift_workers.proofs.Prelude.{◌≡◌, ◌≤◌, length, root_count, EachFrom, IsEnding}
use Rattle.swift_workers.proofs.leave.endings_of.Given as goal

abbrev pub invariant-loop-task : goal.invariant-loop-task
invariant-loop-task l = record {
  each : EachFrom (IsEnding (root_count l.script) l.book.log) 0 l.endings.items;
  many : length l.endings.items ≡ l.task;
  bound : l.task ≤ l.tasks;
}
