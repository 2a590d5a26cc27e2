use Rattle.swift_executor.proofs.Prelude.{List, ◌++◌, map, subst, IsPermutation-append_comm, IsPermutation-trans, IsPermutation, JobView, ReadyJobsView}
use Rattle.swift_executor.proofs.ReadyKept.{jobs_seen}
use Rattle.swift_executor.proofs.ready.ReadyJobs.into_jobs.Goals as goal

pub returns : goal.returns
returns g c =
    let x = c.self.inside in
    let to = c.empty_into.result.items in
    let bare = map (λ w. w.job) x.queue.jobs in
    subst (λ (r : ReadyJobsView g.row.B.Denot). IsPermutation (map (λ x. x.job) r.front ++ r.behind) to) c.self.view_is
    (subst (λ (js : List (JobView g.row.B.Denot)). IsPermutation (js ++ x.behind.items) to) (jobs_seen x.queue.jobs)
    (IsPermutation-trans (bare ++ x.behind.items) (x.behind.items ++ bare) to (IsPermutation-append_comm bare x.behind.items) c.empty_into.ensures))
