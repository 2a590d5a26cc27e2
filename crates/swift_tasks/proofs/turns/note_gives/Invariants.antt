use Rattle.swift_tasks.proofs.Prelude.{◌≡◌, ◌+◌, ◌≤◌, ◌++◌, drop, map, gives, AreMade, job_facts}
use Rattle.swift_tasks.proofs.turns.note_gives.Given as goal

abbrev pub invariant-loop-job : goal.invariant-loop-job
invariant-loop-job l = record {
  roots : l.ledger.roots ≡ l.initial.ledger.roots;
  made : AreMade l.ledger.log (map job_facts (drop l.job-index l.jobs));
  log : l.ledger.log ++ gives (map job_facts (drop l.job-index l.jobs)) ≡ l.initial.ledger.log ++ gives (map job_facts l.jobs);
  spare : l.initial.ledger.spare ≤ l.ledger.spare + l.job-index;
}
