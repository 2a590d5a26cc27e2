use Rattle.swift_executor.proofs.Prelude.{◌≢◌, ℕ, ◌≤◌, List, ◌∷◌, length, map, sym, subst, lit<, arith, IsPermutation-refl, length_permutation, AllPairs, IsPermutation, TaskId, PriorityListsView, Waiting, AreWithout, jobs_of, raised, IsWithout}
use Rattle.std.proofs.Common.{All}
use Rattle.swift_executor.proofs.EditedListIsList.{rank_few}
use Rattle.swift_executor.proofs.PairsInAnyOrder.{pairs_first}
use Rattle.swift_executor.proofs.RaiseChangesOne.{raise_none, raise_one, raised_low, stands}
use Rattle.swift_executor.proofs.queue.lists.PriorityLists.raise.Goals as goal

pub returns-in_default-clause-jobs : goal.returns-in_default-clause-jobs
returns-in_default-clause-jobs g c =
    let lists = c.self.inside.lists in
    let r : List (Waiting g.row.B.Denot) → List (Waiting g.row.B.Denot) = map (raised {B = g.row.B.Denot} c.args.task c.args.priority) in
    let none = subst (λ (n : ℕ). AreWithout n lists c.args.task) c.number.ensures c.in_default.ensures.none in
    subst (λ (q : PriorityListsView g.row.B.Denot). IsPermutation (r q.jobs) q.jobs) c.self.view_is
    (subst (λ (s : List (Waiting g.row.B.Denot)). IsPermutation s (jobs_of lists)) (sym (raise_none c.self.inside.room lists c.args.task c.args.priority c.self.invariant none)) (IsPermutation-refl (jobs_of lists)))

pub insert_by_priority-requires : goal.insert_by_priority-requires
insert_by_priority-requires g c =
    let old = jobs_of c.self.inside.lists in
    let rest = jobs_of c.take_at-job.new.lists in
    let view = c.self.view_is in
    let few : length old ≤ c.self.inside.room = subst (λ (q : PriorityListsView g.row.B.Denot). length q.jobs ≤ q.room) (sym view) c.requires.room in
    let len = length_permutation old (c.take_at-job.result ∷ rest) c.take_at-job.ensures.rest in
    let apart : AllPairs (λ (x y : Waiting g.row.B.Denot). x.arrival ≢ y.arrival) old = subst (λ (q : PriorityListsView g.row.B.Denot). AllPairs (λ (x y : Waiting g.row.B.Denot). x.arrival ≢ y.arrival) q.jobs) (sym view) c.requires.arrivals in (
      lit< tt,
      (
        (c.self.inside.room, c.take_at-job.ensures.lists c.self.inside.room c.self.invariant, omega (arith, few, len)),
        pairs_first (λ (x y : Waiting g.row.B.Denot). x.arrival ≢ y.arrival) (λ x y n e. n (sym e)) old c.take_at-job.result rest c.take_at-job.ensures.rest apart,
      ),
    )

pub invariant_of-self : goal.invariant_of-self
invariant_of-self g c = c.insert_by_priority.ensures.lists c.self.inside.room (c.take_at-job.ensures.lists c.self.inside.room c.self.invariant)

pub returns-clause-jobs : goal.returns-clause-jobs
returns-clause-jobs g c =
    let lists = c.self.inside.lists in
    let old = jobs_of lists in
    let rest = jobs_of c.take_at-job.new.lists in
    let new = jobs_of c.insert_by_priority.new.lists in
    let x = c.take_at-job.result in
    let y : Waiting g.row.B.Denot = record x { priority = c.args.priority } in
    let s = stands c.self.inside.room lists c.args.task c.number.result c.in-Some.list c.in-Some.place x c.self.invariant (omega (arith, c.number.ensures, rank_few c.args.priority)) c.in-Some.ensures.some c.take_at-job.ensures.here in
    let low = s.1 in
    let tasks : AllPairs (λ (x y : Waiting g.row.B.Denot). x.job.task ≢ y.job.task) old = subst (λ (q : PriorityListsView g.row.B.Denot). AllPairs (λ (x y : Waiting g.row.B.Denot). x.job.task ≢ y.job.task) q.jobs) (sym c.self.view_is) c.requires.tasks in
    let others : All (λ (z : Waiting g.row.B.Denot). z.job.task ≢ x.job.task) rest = pairs_first (λ (x y : Waiting g.row.B.Denot). x.job.task ≢ y.job.task) (λ x y n e. n (sym e)) old x rest c.take_at-job.ensures.rest tasks in
    let without : IsWithout rest c.args.task = subst (λ (t : TaskId). IsWithout rest t) s.0 others in
    subst (λ (q : PriorityListsView g.row.B.Denot). IsPermutation (map (raised {B = g.row.B.Denot} c.args.task c.args.priority) q.jobs) new) c.self.view_is
    (raise_one c.args.task c.args.priority old rest new x y c.take_at-job.ensures.rest without (raised_low c.args.task c.args.priority x s.0 (omega (arith, low, c.number.ensures))) c.insert_by_priority.ensures.jobs)
