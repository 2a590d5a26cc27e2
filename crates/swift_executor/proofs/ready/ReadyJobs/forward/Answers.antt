use Rattle.swift_executor.proofs.Prelude.{◌≡◌, ◌≢◌, ◌<◌, ℕ, suc, List, ◌∷◌, ◌++◌, lit<, length, map, take, drop, get_or, inr, ap, sym, subst, ◌∙◌, arith, IsPermutation-map, IsPermutation-remove, length_permutation, All, IsPermutation, TaskId, JobView, waiting, Forwards, IsClear, ReadyJobsView, ReadyJob, level_at, priority_of, job_of}
use Rattle.swift_executor.proofs.ReadyKept.{all_unmap, counted_add, parted, tasks_forward}
use Rattle.swift_executor.proofs.ready.ReadyJobs.forward.Goals as goal

pub put-requires : goal.put-requires
put-requires g c =
    let x = c.self.inside in
    let v = c.self.invariant in
    let clear : IsClear (map job_of x.queue.jobs) c.args.task = subst (λ (r : ReadyJobsView g.row.B.Denot). IsClear r.front c.args.task) (sym c.self.view_is) c.requires in
    let here = c.in-Some.ensures.here in
    let lt : c.in-Some.place < length x.behind.items = subst (λ (js : List (JobView g.row.B.Denot)). c.in-Some.place < length js) c.deref.ensures.value here.within in
    let inside = v.inside in
    let number = v.number in
    let task : c.remove-job.result.task ≡ c.args.task =
    ap (λ (j : JobView g.row.B.Denot). j.task) c.remove-job.ensures.value
    ∙ ap (λ (js : List (JobView g.row.B.Denot)). (get_or js c.in-Some.place c.remove-job.result).task) (sym c.deref.ensures.value)
    ∙ here.task_is c.remove-job.result in
    let free = all_unmap (λ (y : ReadyJob g.row.B.Denot). y.job.task ≢ c.remove-job.result.task) job_of x.queue.jobs (subst (λ (t : TaskId). IsClear (map job_of x.queue.jobs) t) (sym task) clear) in
    (lit< tt, (omega (arith, lt, inside), (omega (arith, lt, number), free)))

pub invariant_of-self : goal.invariant_of-self
invariant_of-self g c =
    let x = c.self.inside in
    let v = c.self.invariant in
    let here = c.in-Some.ensures.here in
    let lt : c.in-Some.place < length x.behind.items = subst (λ (js : List (JobView g.row.B.Denot)). c.in-Some.place < length js) c.deref.ensures.value here.within in
    let task : c.remove-job.result.task ≡ c.args.task =
    ap (λ (j : JobView g.row.B.Denot). j.task) c.remove-job.ensures.value
    ∙ ap (λ (js : List (JobView g.row.B.Denot)). (get_or js c.in-Some.place c.remove-job.result).task) (sym c.deref.ensures.value)
    ∙ here.task_is c.remove-job.result in
    let w = waiting c.remove-job.result c.priority_of-priority.result x.queue.arrived in
    let less = c.remove-job.new.self.items in
    let gone : IsPermutation x.behind.items (c.remove-job.result ∷ less) =
    subst (λ (js : List (JobView g.row.B.Denot)). IsPermutation x.behind.items (c.remove-job.result ∷ js)) (sym c.remove-job.ensures.items) (IsPermutation-remove x.behind.items c.in-Some.place c.remove-job.result lt c.remove-job.ensures.value) in
    let len = length_permutation x.behind.items (c.remove-job.result ∷ less) gone in
    let more = c.put.ensures.len in
    let qroom = c.put.ensures.room in
    let arrived = c.put.ensures.arrived in
    let many = v.many in
    let inside = v.inside in
    let number = v.number in
    let cap = v.behind_room in
    let cap' = c.remove-job.ensures.capacity in
    let tr = v.tasks_room in
    record {
      counted = counted_add x.levels.items x.queue.jobs c.put.new.self.jobs w v.counted
          (c.priority_of-priority.ensures ∙ ap priority_of (c.level.ensures ∙ ap (λ (r : ReadyJobsView g.row.B.Denot). level_at r.levels c.args.task) (sym c.self.view_is) ∙ ap (level_at x.levels.items) (sym task))) c.put.ensures.jobs;
      tasks = tasks_forward x.queue.jobs c.put.new.self.jobs w x.behind.items less x.tasks.tasks v.tasks gone c.put.ensures.jobs;
      many = omega (arith, many, len, more);
      inside = omega (arith, inside, len, more, qroom);
      number = omega (arith, number, len, arrived);
      behind_room = omega (arith, cap, cap', qroom);
      tasks_room = omega (arith, tr, qroom);
      levels = v.levels;
    }

pub returns : goal.returns
returns g c =
    let x = c.self.inside in
    let here = c.in-Some.ensures.here in
    let lt : c.in-Some.place < length x.behind.items = subst (λ (js : List (JobView g.row.B.Denot)). c.in-Some.place < length js) c.deref.ensures.value here.within in
    let task : c.remove-job.result.task ≡ c.args.task =
    ap (λ (j : JobView g.row.B.Denot). j.task) c.remove-job.ensures.value
    ∙ ap (λ (js : List (JobView g.row.B.Denot)). (get_or js c.in-Some.place c.remove-job.result).task) (sym c.deref.ensures.value)
    ∙ here.task_is c.remove-job.result in
    let w = waiting c.remove-job.result c.priority_of-priority.result x.queue.arrived in
    let old : ReadyJobsView g.row.B.Denot = record { front = map job_of x.queue.jobs; behind = x.behind.items; room = x.queue.room; arrived = x.queue.arrived; levels = x.levels.items; counted = x.counted } in
    let new : ReadyJobsView g.row.B.Denot = record { front = map job_of c.put.new.self.jobs; behind = c.remove-job.new.self.items; room = c.put.new.self.room; arrived = c.put.new.self.arrived; levels = x.levels.items; counted = x.counted } in
    subst (λ (r : ReadyJobsView g.row.B.Denot). Forwards r c.args.task new) c.self.view_is (inr (
      take c.in-Some.place x.behind.items,
      drop (suc c.in-Some.place) x.behind.items,
      c.remove-job.result,
      parted x.behind.items c.in-Some.place c.remove-job.result lt c.remove-job.ensures.value,
      subst (λ (js : List (JobView g.row.B.Denot)). All (λ j. j.task ≢ c.args.task) (take c.in-Some.place js)) c.deref.ensures.value c.in-Some.ensures.before,
      task,
      IsPermutation-map job_of (w ∷ x.queue.jobs) c.put.new.self.jobs c.put.ensures.jobs,
      ap (λ (js : List (JobView g.row.B.Denot)). record new { behind = js }) c.remove-job.ensures.items
          ∙ ap (λ (n : ℕ). record old { front = new.front; behind = take c.in-Some.place x.behind.items ++ drop (suc c.in-Some.place) x.behind.items; room = n; arrived = new.arrived }) c.put.ensures.room
          ∙ ap (λ (n : ℕ). record old { front = new.front; behind = take c.in-Some.place x.behind.items ++ drop (suc c.in-Some.place) x.behind.items; arrived = n }) c.put.ensures.arrived,
    ))
