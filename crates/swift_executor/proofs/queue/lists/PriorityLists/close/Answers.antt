use Rattle.swift_executor.proofs.Prelude.{Global, length, ap, lit<, arith, deque_items, PriorityListsView, Waiting}
use Rattle.swift_executor.proofs.OneListOfAll.{list_short}
use Rattle.swift_executor.proofs.queue.lists.PriorityLists.close.Goals as goal

pub close_each-requires : goal.close_each-requires
close_each-requires g c =
    let none = ap (λ (q : PriorityListsView g.row.B.Denot). length q.jobs) c.self.view_is in
    (lit< tt, λ k d low lt. let short = list_short (deque_items {X = Waiting g.row.B.Denot} {Z = Global}) c.self.inside.lists k d lt in omega (arith, short, none, c.requires))
