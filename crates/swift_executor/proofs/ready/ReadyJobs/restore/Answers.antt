use Rattle.swift_executor.proofs.Prelude.{◌≢◌, ◌∷◌, lit<, map, ap, sym, subst, ◌∙◌, arith, length-map, IsPermutation-map, length_permutation, IsPermutation, TaskId, waiting, CanRestore, ReadyJobsView, ReadyJob, level_at, priority_of, ready_job, job_of, task_in}
use Rattle.swift_executor.proofs.ReadyKept.{all_unmap, counted_add, tasks_add}
use Rattle.swift_executor.proofs.ready.ReadyJobs.restore.Goals as goal

pub add-requires : goal.add-requires
add-requires g c =
    let x = c.self.inside in
    let v = c.self.invariant in
    let can : CanRestore (record { front = map job_of x.queue.jobs; behind = x.behind.items; room = x.queue.room; arrived = x.queue.arrived; levels = x.levels.items; counted = x.counted }) c.args.job.task c.args.arrival =
    subst (λ (r : ReadyJobsView g.row.B.Denot). CanRestore r c.args.job.task c.args.arrival) (sym c.self.view_is) c.requires in
    let len = length-map x.queue.jobs job_of in
    let lt = can.room in
    let many = v.many in
    let room = v.tasks_room in
    omega (arith, lt, len, many, room)

pub restore-requires : goal.restore-requires
restore-requires g c =
    let x = c.self.inside in
    let can : CanRestore (record { front = map job_of x.queue.jobs; behind = x.behind.items; room = x.queue.room; arrived = x.queue.arrived; levels = x.levels.items; counted = x.counted }) c.args.job.task c.args.arrival =
    subst (λ (r : ReadyJobsView g.row.B.Denot). CanRestore r c.args.job.task c.args.arrival) (sym c.self.view_is) c.requires in
    let len = length-map x.queue.jobs job_of in
    let lt = can.room in (
      lit< tt,
      record {
        room = omega (arith, lt, len);
        below = can.below;
        apart = all_unmap (λ (y : ReadyJob g.row.B.Denot). y.arrival ≢ c.args.arrival) job_of x.queue.jobs can.apart;
        without = all_unmap (λ (y : ReadyJob g.row.B.Denot). y.job.task ≢ c.args.job.task) job_of x.queue.jobs can.clear;
      },
    )

pub invariant_of-self : goal.invariant_of-self
invariant_of-self g c =
    let x = c.self.inside in
    let v = c.self.invariant in
    let can : CanRestore (record { front = map job_of x.queue.jobs; behind = x.behind.items; room = x.queue.room; arrived = x.queue.arrived; levels = x.levels.items; counted = x.counted }) c.args.job.task c.args.arrival =
    subst (λ (r : ReadyJobsView g.row.B.Denot). CanRestore r c.args.job.task c.args.arrival) (sym c.self.view_is) c.requires in
    let len = length-map x.queue.jobs job_of in
    let lt = can.room in
    let num = v.number in
    let ts = length_permutation (c.task-task.result ∷ x.tasks.tasks) c.add.new.self.tasks c.add.ensures.tasks in
    let many = v.many in
    let room = v.tasks_room in
    let kept = c.add.ensures.room in
    let cap = v.behind_room in
    let more = c.restore.ensures.len in
    let qroom = c.restore.ensures.room in
    let arrived = c.restore.ensures.arrived in
    let w = waiting c.args.job c.priority_of-priority.result c.args.arrival in
    record {
      counted = counted_add x.levels.items x.queue.jobs c.restore.new.self.jobs w v.counted
          (c.priority_of-priority.ensures ∙ ap priority_of (c.level.ensures ∙ ap (λ (r : ReadyJobsView g.row.B.Denot). level_at r.levels c.task-task.result) (sym c.self.view_is) ∙ ap (level_at x.levels.items) c.task-task.ensures)) c.restore.ensures.jobs;
      tasks = tasks_add x.queue.jobs c.restore.new.self.jobs w (map task_in x.behind.items) x.tasks.tasks c.add.new.self.tasks v.tasks (subst (λ (t : TaskId). IsPermutation (t ∷ x.tasks.tasks) c.add.new.self.tasks) c.task-task.ensures c.add.ensures.tasks) c.restore.ensures.jobs;
      many = omega (arith, ts, many, more);
      inside = omega (arith, lt, len, more, qroom);
      number = omega (arith, num, arrived);
      behind_room = omega (arith, cap, qroom);
      tasks_room = omega (arith, room, kept, qroom);
      levels = v.levels;
    }

pub returns-clause-front : goal.returns-clause-front
returns-clause-front g c =
    let x = c.self.inside in
    let w = waiting c.args.job c.priority_of-priority.result c.args.arrival in
    subst (λ (r : ReadyJobsView g.row.B.Denot). IsPermutation (ready_job c.args.job c.args.arrival ∷ r.front) (map job_of c.restore.new.self.jobs)) c.self.view_is
    (IsPermutation-map job_of (w ∷ x.queue.jobs) c.restore.new.self.jobs c.restore.ensures.jobs)
