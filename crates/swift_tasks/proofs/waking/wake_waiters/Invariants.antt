use Rattle.swift_tasks.proofs.Prelude.{◌≡◌, ◌+◌, ◌-◌, ◌≤◌, vec_len, drop, length, vec_capacity, AllByRecursion, ScriptView, waiters_of, wake_each, follows_of, FitsScript, IsJobOf}
use Rattle.swift_tasks.proofs.waking.wake_waiters.Given as goal

abbrev pub invariant-wake : goal.invariant-wake
invariant-wake l = record {
  follows : wake_each (drop l.place (waiters_of l.task.0 l.ledger.log)) l.resume (follows_of l.held l.jobs.items) ≡ wake_each (waiters_of l.task.0 l.ledger.log) l.resume (follows_of l.initial.held l.initial.jobs.items);
  bodies : (script : ScriptView) → AllByRecursion (FitsScript script) l.initial.held
      → AllByRecursion (FitsScript script) l.held × (AllByRecursion (IsJobOf script) l.initial.jobs.items → AllByRecursion (IsJobOf script) l.jobs.items);
  few : vec_len l.jobs ≤ vec_len l.initial.jobs + l.place;
  capacity : vec_capacity l.jobs ≡ vec_capacity l.initial.jobs;
  there : l.place ≤ length (waiters_of l.task.0 l.ledger.log);
}

abbrev pub decreases-wake : goal.decreases-wake
decreases-wake l = length (waiters_of l.task.0 l.ledger.log) - l.place
