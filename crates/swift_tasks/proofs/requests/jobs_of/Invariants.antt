use Rattle.swift_tasks.proofs.Prelude.{◌≡◌, ◌+◌, ◌≤◌, ◌++◌, vec_len, map, reverse, vec_capacity, AllByRecursion, TASKS, ScriptView, IsJobOf, jobs_held, job_facts, FitsScript, held_views}
use Rattle.swift_tasks.proofs.requests.jobs_of.Given as goal

abbrev pub invariant-loop-waiting : goal.invariant-loop-waiting
invariant-loop-waiting l = record {
  all : jobs_held 0 (held_views l.held.items) ++ reverse (map job_facts l.jobs.items) ≡ jobs_held 0 (held_views l.initial.held.items);
  room : vec_len l.jobs + vec_len l.held ≤ vec_capacity l.jobs;
  few : vec_len l.held ≤ TASKS;
  bodies : (script : ScriptView) → AllByRecursion (FitsScript script) l.initial.held.items → AllByRecursion (FitsScript script) l.held.items × AllByRecursion (IsJobOf script) l.jobs.items;
}

abbrev pub decreases-loop-waiting : goal.decreases-loop-waiting
decreases-loop-waiting l = vec_len l.held
