use Rattle.swift_executor.proofs.Prelude.{◌≡◌, ℕ, List, [], ◌++◌, length, map, sym, subst, ap, ◌∙◌, arith, JobView, QueueView, Waiting, length-replicate, TASKS, times, AreCounted, job_of, task_in, task_of}
use Rattle.swift_executor.proofs.ready.ReadyJobs.with_room.Goals as goal

pub returns-in-Ok : goal.returns-in-Ok
returns-in-Ok g c =
    let levels = c.in_ok-levels.levels.items in
    ap (λ (q : QueueView g.row.B.Denot). record { front = map job_of q.jobs; behind = c.in-Ok.behind.items; room = q.room; arrived = q.arrived; levels = levels; counted = 0 }) c.in_ok-queue.ensures
    ∙ ap (λ (js : List (JobView g.row.B.Denot)). record { front = []; behind = js; room = c.args.room; arrived = 0; levels = levels; counted = 0 }) c.in-Ok.ensures.items
    ∙ ap (λ (ls : List ℕ). record { front = []; behind = []; room = c.args.room; arrived = 0; levels = ls; counted = 0 }) (c.in_ok-levels.ensures.items_if_clones_equal (λ y is. is))

pub invariant_of-result : goal.invariant_of-result
invariant_of-result g c =
    let q : QueueView g.row.B.Denot = c.in_ok-queue.queue in
    let jobs : q.jobs ≡ [] = ap (λ (q : QueueView g.row.B.Denot). q.jobs) c.in_ok-queue.ensures in
    let room : q.room ≡ c.args.room = ap (λ (q : QueueView g.row.B.Denot). q.room) c.in_ok-queue.ensures in
    let arrived : q.arrived ≡ 0 = ap (λ (q : QueueView g.row.B.Denot). q.arrived) c.in_ok-queue.ensures in
    let tasks = c.in_ok-tasks.ensures.tasks in
    let behind : c.in-Ok.behind.items ≡ [] = c.in-Ok.ensures.items in
    let no_jobs : length q.jobs ≡ 0 = ap length jobs in
    let no_tasks : length c.in_ok-tasks.tasks.tasks ≡ 0 = ap length tasks in
    let none_behind : length c.in-Ok.behind.items ≡ 0 = ap length behind in
    let capacity = c.in-Ok.ensures.capacity in
    let tasks_room = c.in_ok-tasks.ensures.room in
    let same : (map task_of q.jobs ++ map task_in c.in-Ok.behind.items) ≡ [] =
    ap (λ (js : List (Waiting g.row.B.Denot)). map task_of js ++ map task_in c.in-Ok.behind.items) jobs ∙ ap (λ (js : List (JobView g.row.B.Denot)). map task_in js) behind in
    record {
      counted = subst (AreCounted c.in_ok-levels.levels.items) (sym jobs) (λ k d lt. absurd (omega (arith, lt)));
      tasks = λ t. ap (times t) (tasks ∙ sym same);
      many = omega (arith, no_jobs, no_tasks, none_behind);
      inside = omega (arith, no_jobs, none_behind);
      number = omega (arith, arrived, none_behind);
      behind_room = omega (arith, room, capacity);
      tasks_room = omega (arith, room, tasks_room);
      levels = ap length (c.in_ok-levels.ensures.items_if_clones_equal (λ y is. is)) ∙ length-replicate {A = ℕ} TASKS 0;
    }
