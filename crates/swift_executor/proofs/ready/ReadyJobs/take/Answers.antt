use Rattle.swift_executor.proofs.Prelude.{◌≢◌, ◌∷◌, Contains, map, sym, subst, arith, length-map, All-map, IsPermutation-map, length_permutation, All, IsPermutation, TaskId, QueueView, waiting, ComesFirst, ReadyJobsView, ready_job, ReadyInvariant, job_of, task_in}
use Rattle.swift_executor.proofs.ReadyKept.{all_come, counted_take, stands_taken, tasks_take}
use Rattle.swift_executor.proofs.ready.ReadyJobs.take.Goals as goal

pub invariant_of-self : goal.invariant_of-self
invariant_of-self g c =
    let x = c.self.inside in
    let same = c.in_default.ensures.none.1 in
    subst (λ (q : QueueView g.row.B.Denot). ReadyInvariant (record { queue = q; behind = x.behind; tasks = x.tasks; levels = x.levels; counted = x.counted })) (sym same) c.self.invariant

pub remove-requires : goal.remove-requires
remove-requires g c =
    let x = c.self.inside in
    let w = waiting c.in-Some.job c.in-Some.ensures.some.priority c.in-Some.arrival in
    subst (λ (t : TaskId). Contains x.tasks.tasks t) (sym c.task.ensures) (stands_taken x.queue.jobs c.take_from.new.queue.jobs w (map task_in x.behind.items) x.tasks.tasks c.self.invariant.tasks c.in-Some.ensures.some.rest)

pub invariant_of-self-2 : goal.invariant_of-self-2
invariant_of-self-2 g c =
    let x = c.self.inside in
    let v = c.self.invariant in
    let takes = c.in-Some.ensures.some in
    let w = waiting c.in-Some.job takes.priority c.in-Some.arrival in
    let new = c.take_from.new.queue.jobs in
    let ts = length_permutation x.tasks.tasks (c.task.result ∷ c.remove.new.self.tasks) c.remove.ensures.tasks in
    let len = c.in-Some.ensures.len in
    let many = v.many in
    let inside = v.inside in
    let number = v.number in
    let cap = v.behind_room in
    let tr = v.tasks_room in
    let kept = c.remove.ensures.room in
    let room = c.in-Some.ensures.room in
    let arrived = c.in-Some.ensures.arrived in
    record {
      counted = (counted_take x.levels.items x.queue.jobs new w v.counted takes.rest).0;
      tasks = tasks_take x.queue.jobs new w (map task_in x.behind.items) x.tasks.tasks c.remove.new.self.tasks v.tasks (subst (λ (t : TaskId). IsPermutation x.tasks.tasks (t ∷ c.remove.new.self.tasks)) c.task.ensures c.remove.ensures.tasks) takes.rest;
      many = omega (arith, ts, many, len);
      inside = omega (arith, inside, len, room);
      number = omega (arith, number, arrived);
      behind_room = omega (arith, cap, room);
      tasks_room = omega (arith, tr, kept, room);
      levels = v.levels;
    }

pub returns-clause-first : goal.returns-clause-first
returns-clause-first g c =
    let x = c.self.inside in
    let takes = c.in-Some.ensures.some in
    let w = waiting c.in-Some.job takes.priority c.in-Some.arrival in
    let p = (counted_take x.levels.items x.queue.jobs c.take_from.new.queue.jobs w c.self.invariant.counted takes.rest).1 in
    subst (λ (r : ReadyJobsView g.row.B.Denot). All (ComesFirst c.args.by_arrival r.levels (ready_job c.in-Some.job c.in-Some.arrival)) r.front) c.self.view_is
    (all_come c.args.by_arrival x.levels.items w x.queue.jobs p c.self.invariant.counted takes.first)

pub returns-clause-rest : goal.returns-clause-rest
returns-clause-rest g c =
    let x = c.self.inside in
    let takes = c.in-Some.ensures.some in
    let w = waiting c.in-Some.job takes.priority c.in-Some.arrival in
    let new = c.take_from.new.queue.jobs in
    subst (λ (r : ReadyJobsView g.row.B.Denot). IsPermutation r.front (ready_job c.in-Some.job c.in-Some.arrival ∷ map job_of new)) c.self.view_is
    (IsPermutation-map job_of x.queue.jobs (w ∷ new) takes.rest)

pub returns-clause-restorable : goal.returns-clause-restorable
returns-clause-restorable g c =
    let x = c.self.inside in
    let can = c.in-Some.ensures.restorable in
    let new = c.take_from.new.queue.jobs in
    let len = length-map new (job_of {B = g.row.B.Denot}) in
    let less = c.in-Some.ensures.len in
    let inside = c.self.invariant.inside in
    let room = c.in-Some.ensures.room in
    record {
      room = omega (arith, len, less, inside, room);
      below = can.below;
      apart = All-map (λ y. y.arrival ≢ c.in-Some.arrival) job_of new can.apart;
      clear = All-map (λ y. y.job.task ≢ c.in-Some.job.task) job_of new can.without;
    }
