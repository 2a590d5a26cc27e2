use Rattle.swift_executor.proofs.Prelude.{◌<◌, ℕ, List, ◌++◌, length, map, set, ap, sym, subst, ◌∙◌, arith, length-set, get_or-set_same, get_or-set_other, get_or_default, IsPermutation, TaskId, Priority, raised, ReadyJobsView, ReadyJob, level_at, priority_of, times, job_of, task_in, task_of, IsPermutation-append_left, IsPermutation-map}
use Rattle.swift_executor.proofs.ReadyKept.{counted_raise, raised_seen, raised_tasks, seen_perm, times_perm}
use Rattle.swift_executor.proofs.ready.ReadyJobs.raise.Goals as goal

pub invariant_of-self : goal.invariant_of-self
invariant_of-self g c =
    let x = c.self.inside in
    let v = c.self.invariant in
    let task : TaskId = record { 0 = c.args.place } in
    let jobs = x.queue.jobs in
    let new = c.raise.new.self.jobs in
    let levels' = set x.levels.items c.args.place c.args.level in
    let p = priority_of c.args.level in
    let perm : IsPermutation (map (raised task p) jobs) new = subst (λ (p : Priority). IsPermutation (map (raised task p) jobs) new) c.priority_of.ensures c.raise.ensures.jobs in
    let size = v.levels in
    let lt : c.args.place < length x.levels.items = omega (arith, c.requires, size) in
    let below : level_at x.levels.items task < c.args.level =
    subst (λ (n : ℕ). n < c.args.level) (c.index.ensures ∙ get_or_default x.levels.items c.args.place c.index.result.now 0 lt) c.if-index-level.true in
    let len = c.raise.ensures.len in
    let room = c.raise.ensures.room in
    let arrived = c.raise.ensures.arrived in
    let inside = v.inside in
    let number = v.number in
    let cap = v.behind_room in
    let tr = v.tasks_room in
    let many = v.many in
    record {
      counted = counted_raise x.levels.items levels' task c.args.level jobs new below (get_or-set_same x.levels.items c.args.place c.args.level 0 lt)
          (λ t ne. get_or-set_other x.levels.items c.args.place t.0 c.args.level 0 ne) v.counted perm;
      tasks = λ t. v.tasks t
          ∙ ap (λ (ts : List TaskId). times t (ts ++ map task_in x.behind.items)) (sym (raised_tasks task p jobs))
          ∙ sym (times_perm t (map task_of (map (raised task p) jobs) ++ map task_in x.behind.items) (map task_of new ++ map task_in x.behind.items) (IsPermutation-append_left (map task_in x.behind.items) (map task_of (map (raised task p) jobs)) (map task_of new) (IsPermutation-map task_of (map (raised task p) jobs) new perm)));
      many = omega (arith, many, len);
      inside = omega (arith, inside, len, room);
      number = omega (arith, number, arrived);
      behind_room = omega (arith, cap, room);
      tasks_room = omega (arith, tr, room);
      levels = length-set x.levels.items c.args.place c.args.level ∙ v.levels;
    }

pub returns-then-index-level-clause-front : goal.returns-then-index-level-clause-front
returns-then-index-level-clause-front g c =
    let x = c.self.inside in
    let task : TaskId = record { 0 = c.args.place } in
    let p = c.priority_of.result in
    let new = c.raise.new.self.jobs in
    subst (λ (r : ReadyJobsView g.row.B.Denot). IsPermutation r.front (map job_of new)) c.self.view_is
    (subst (λ (xs : List (ReadyJob g.row.B.Denot)). IsPermutation xs (map job_of new)) (raised_seen task p x.queue.jobs) (seen_perm (map (raised task p) x.queue.jobs) new c.raise.ensures.jobs))
