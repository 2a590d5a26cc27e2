use Rattle.swift_executor.proofs.Prelude.{◌<◌, length, ap, refl, subst, arith, PriorityListsView, PicksFirst}
use Rattle.std.proofs.Common.{All}
use Rattle.swift_executor.proofs.FirstIsPicked.{empty_none, filled_some, top_first}
use Rattle.swift_executor.proofs.queue.lists.PriorityLists.take.Goals as goal

pub invariant_of-self : goal.invariant_of-self
invariant_of-self g c = c.take_first.ensures.lists c.self.inside.room c.self.invariant

pub returns-in-Some-clause-some : goal.returns-in-Some-clause-some
returns-in-Some-clause-some g c =
    let lists = c.self.inside.lists in
    (λ _. subst (λ (q : PriorityListsView g.row.B.Denot). 0 < length q.jobs) c.self.view_is (filled_some lists c.in-Some.level c.in-Some.ensures.some.filled), λ _. refl)

pub returns-in-Some-clause-first : goal.returns-in-Some-clause-first
returns-in-Some-clause-first g c =
    let lists = c.self.inside.lists in
    subst (λ (q : PriorityListsView g.row.B.Denot). All (PicksFirst c.take_first.result) q.jobs) c.self.view_is
    (top_first c.self.inside.room lists c.in-Some.level c.take_first.result c.self.invariant c.in-Some.ensures.some c.take_first.ensures.first)

pub returns-in-None-clause-some : goal.returns-in-None-clause-some
returns-in-None-clause-some g c =
    let none = empty_none c.self.inside.lists c.in-None.ensures.none in
    let same = ap (λ (q : PriorityListsView g.row.B.Denot). length q.jobs) c.self.view_is in
    (λ e. absurd (cc), λ lt. absurd (omega (arith, lt, same, none)))
