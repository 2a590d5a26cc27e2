use Rattle.swift_steps.proofs.Prelude.{◌≡◌, ℕ, Option, map, reverse, vec_len, with_jobs, JobFacts, AllByRecursion, ScriptView, IsJobOf, job_facts, AreGiven, AreOf}
use Rattle.swift_steps.proofs.next_turn.put_all.Given as goal

-- what is there is what the jobs that were put lead to, and the others lead on to the end; all are of one script
abbrev pub invariant-loop-job : goal.invariant-loop-job
invariant-loop-job l = record {
  given : (seen : ℕ → Option JobFacts) → AreGiven seen l.fn.tasks.items →
      (now : ℕ → Option JobFacts) × AreGiven now l.tasks.items × (with_jobs (map job_facts (reverse l.jobs.items)) now ≡ with_jobs (map job_facts l.fn.jobs.items) seen);
  scripts : (script : ScriptView) → AllByRecursion (IsJobOf script) l.fn.jobs.items → AreOf script l.fn.tasks.items → AllByRecursion (IsJobOf script) l.jobs.items × AreOf script l.tasks.items;
}

abbrev pub decreases-loop-job : goal.decreases-loop-job
decreases-loop-job l = vec_len l.jobs
