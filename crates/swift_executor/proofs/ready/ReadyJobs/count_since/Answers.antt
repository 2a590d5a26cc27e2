use Rattle.swift_executor.proofs.Prelude.{ℕ, ◌≤◌, Option, IfSome, subst, AreAtMost, ReadyJobsView}
use Rattle.swift_executor.proofs.Counting.{at_most_higher}
use Rattle.swift_executor.proofs.ready.ReadyJobs.count_since.Goals as goal

pub returns-then-changed-self-clause-levels : goal.returns-then-changed-self-clause-levels
returns-then-changed-self-clause-levels g c =
    let stayed = subst (λ (o : Option ℕ). IfSome o (λ n. n ≤ c.args.self.now.counted → AreAtMost c.args.given.now c.args.self.now.levels)) c.in-Some.is c.requires.stayed in
    let le = subst (λ (r : ReadyJobsView g.row.B.Denot). c.in-Some.changed ≤ r.counted) c.self.view_is c.if-changed-self.true in
    at_most_higher _ _ (stayed le)
