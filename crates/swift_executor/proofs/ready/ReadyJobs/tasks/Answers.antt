use Rattle.swift_executor.proofs.Prelude.{List, ◌++◌, map, ap, ◌∙◌, TaskId, ReadyJobsView, tasks_in, times, task_in}
use Rattle.swift_executor.proofs.ReadyKept.{tasks_seen}
use Rattle.swift_executor.proofs.ready.ReadyJobs.tasks.Goals as goal

pub returns : goal.returns
returns g c = λ t.
    let x = c.self.inside in
    ap (times t) c.as_slice.ensures
    ∙ c.self.invariant.tasks t
    ∙ ap (λ (ts : List TaskId). times t (ts ++ map task_in x.behind.items)) (tasks_seen x.queue.jobs)
    ∙ ap (λ (r : ReadyJobsView g.row.B.Denot). times t (tasks_in r)) c.self.view_is
