use Rattle.swift_executor.proofs.Prelude.{◌≡◌, ◌≢◌, true≢false, ◌+◌, ℕ, List, [], ◌∷◌, ◌++◌, length, map, inl, inr, ap, sym, subst, ◌∙◌, arith, length-map, length-append, All-map, IsPermutation-map, length_permutation, IsPermutation, TaskId, JobView, waiting, Adds, HasRoom, IsClear, ReadyJobsView, ReadyJob, level_at, priority_of, times, job_of, task_in, task_of}
use Rattle.swift_executor.proofs.ReadyKept.{all_unmap, counted_add, tasks_add, tasks_behind}
use Rattle.swift_executor.proofs.ready.ReadyJobs.add.Goals as goal

pub add-requires : goal.add-requires
add-requires g c =
    let x = c.self.inside in
    let v = c.self.invariant in
    let inside : HasRoom (record { front = map job_of x.queue.jobs; behind = x.behind.items; room = x.queue.room; arrived = x.queue.arrived; levels = x.levels.items; counted = x.counted }) 0 =
    subst (λ (r : ReadyJobsView g.row.B.Denot). HasRoom r 0) (sym c.self.view_is) c.requires in
    let len = length-map x.queue.jobs job_of in
    let lt = inside.room in
    let many = v.many in
    let room = v.tasks_room in
    omega (arith, lt, len, many, room)

pub invariant_of-self : goal.invariant_of-self
invariant_of-self g c =
    let x = c.self.inside in
    let v = c.self.invariant in
    let inside : HasRoom (record { front = map job_of x.queue.jobs; behind = x.behind.items; room = x.queue.room; arrived = x.queue.arrived; levels = x.levels.items; counted = x.counted }) 0 =
    subst (λ (r : ReadyJobsView g.row.B.Denot). HasRoom r 0) (sym c.self.view_is) c.requires in
    let len = length-map x.queue.jobs job_of in
    let lt = inside.room in
    let num = inside.number in
    let items = c.push_reserved.ensures.items in
    let more : length c.push_reserved.new.self.items ≡ length x.behind.items + 1 = ap length items ∙ length-append x.behind.items (c.args.job ∷ []) in
    let ts = length_permutation (c.task-task.result ∷ x.tasks.tasks) c.add.new.self.tasks c.add.ensures.tasks in
    let many = v.many in
    let room = v.tasks_room in
    let kept = c.add.ensures.room in
    let cap = v.behind_room in
    let cap' = c.push_reserved.ensures.capacity in
    record {
      counted = v.counted;
      tasks = λ t. tasks_behind x.queue.jobs x.behind.items c.args.job x.tasks.tasks c.add.new.self.tasks v.tasks (subst (λ (t : TaskId). IsPermutation (t ∷ x.tasks.tasks) c.add.new.self.tasks) c.task-task.ensures c.add.ensures.tasks) t
          ∙ ap (λ (js : List (JobView g.row.B.Denot)). times t (map task_of x.queue.jobs ++ map task_in js)) (sym items);
      many = omega (arith, ts, many, more);
      inside = omega (arith, lt, len, more);
      number = omega (arith, num, len, more);
      behind_room = omega (arith, cap, cap');
      tasks_room = omega (arith, room, kept);
      levels = v.levels;
    }

pub invariant_of-self-else-holds : goal.invariant_of-self-else-holds
invariant_of-self-else-holds g c =
    let x = c.self.inside in
    let v = c.self.invariant in
    let inside : HasRoom (record { front = map job_of x.queue.jobs; behind = x.behind.items; room = x.queue.room; arrived = x.queue.arrived; levels = x.levels.items; counted = x.counted }) 0 =
    subst (λ (r : ReadyJobsView g.row.B.Denot). HasRoom r 0) (sym c.self.view_is) c.requires in
    let len = length-map x.queue.jobs job_of in
    let lt = inside.room in
    let num = inside.number in
    let ts = length_permutation (c.task-task.result ∷ x.tasks.tasks) c.add.new.self.tasks c.add.ensures.tasks in
    let many = v.many in
    let room = v.tasks_room in
    let kept = c.add.ensures.room in
    let cap = v.behind_room in
    let more = c.put.ensures.len in
    let qroom = c.put.ensures.room in
    let arrived = c.put.ensures.arrived in
    let w = waiting c.args.job c.priority_of-priority.result x.queue.arrived in
    record {
      counted = counted_add x.levels.items x.queue.jobs c.put.new.self.jobs w v.counted
          (c.priority_of-priority.ensures ∙ ap priority_of (c.level.ensures ∙ ap (λ (r : ReadyJobsView g.row.B.Denot). level_at r.levels c.task-task.result) (sym c.self.view_is) ∙ ap (level_at x.levels.items) c.task-task.ensures)) c.put.ensures.jobs;
      tasks = tasks_add x.queue.jobs c.put.new.self.jobs w (map task_in x.behind.items) x.tasks.tasks c.add.new.self.tasks v.tasks (subst (λ (t : TaskId). IsPermutation (t ∷ x.tasks.tasks) c.add.new.self.tasks) c.task-task.ensures c.add.ensures.tasks) c.put.ensures.jobs;
      many = omega (arith, ts, many, more);
      inside = omega (arith, lt, len, more, qroom);
      number = omega (arith, num, len, arrived);
      behind_room = omega (arith, cap, qroom);
      tasks_room = omega (arith, room, kept, qroom);
      levels = v.levels;
    }

pub returns-then-holds : goal.returns-then-holds
returns-then-holds g c =
    let x = c.self.inside in
    let old : ReadyJobsView g.row.B.Denot = record { front = map job_of x.queue.jobs; behind = x.behind.items; room = x.queue.room; arrived = x.queue.arrived; levels = x.levels.items; counted = x.counted } in
    let new : ReadyJobsView g.row.B.Denot = record { front = map job_of x.queue.jobs; behind = c.push_reserved.new.self.items; room = x.queue.room; arrived = x.queue.arrived; levels = x.levels.items; counted = x.counted } in
    subst (λ (r : ReadyJobsView g.row.B.Denot). Adds r c.args.job new) c.self.view_is (inr (
      λ clear. absurd (true≢false (sym c.if-holds.true ∙ c.holds.ensures.1 (all_unmap (λ (y : ReadyJob g.row.B.Denot). y.job.task ≢ c.task-task.result) job_of x.queue.jobs (subst (λ (t : TaskId). IsClear old.front t) (sym c.task-task.ensures) clear)))),
      ap (λ (js : List (JobView g.row.B.Denot)). record old { behind = js }) c.push_reserved.ensures.items,
    ))

pub returns-else-holds : goal.returns-else-holds
returns-else-holds g c =
    let x = c.self.inside in
    let old : ReadyJobsView g.row.B.Denot = record { front = map job_of x.queue.jobs; behind = x.behind.items; room = x.queue.room; arrived = x.queue.arrived; levels = x.levels.items; counted = x.counted } in
    let new : ReadyJobsView g.row.B.Denot = record { front = map job_of c.put.new.self.jobs; behind = x.behind.items; room = c.put.new.self.room; arrived = c.put.new.self.arrived; levels = x.levels.items; counted = x.counted } in
    let w = waiting c.args.job c.priority_of-priority.result x.queue.arrived in
    subst (λ (r : ReadyJobsView g.row.B.Denot). Adds r c.args.job new) c.self.view_is (inl (
      subst (λ (t : TaskId). IsClear old.front t) c.task-task.ensures (All-map (λ y. y.job.task ≢ c.task-task.result) job_of x.queue.jobs (c.holds.ensures.0 c.if-holds.false)),
      IsPermutation-map job_of (w ∷ x.queue.jobs) c.put.new.self.jobs c.put.ensures.jobs,
      ap (λ (n : ℕ). record new { room = n }) c.put.ensures.room ∙ ap (λ (n : ℕ). record new { room = x.queue.room; arrived = n }) c.put.ensures.arrived,
    ))
