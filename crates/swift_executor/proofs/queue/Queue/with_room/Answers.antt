use Rattle.swift_executor.proofs.Prelude.{rules, ℕ, List, Option, None, replicate, sym, subst, AreArrivals, PriorityListsView, IsOrderly}
use Rattle.swift_executor.proofs.ArrivalsStayRight.{arrivals_new}
use Rattle.swift_executor.proofs.QueueStaysOrderly.{orderly_new}
use Rattle.swift_executor.proofs.queue.Queue.with_room.Goals as goal

pub invariant_of-result : goal.invariant_of-result
invariant_of-result g c =
    let lists = c.in_ok-lists.ensures in
    let none = c.in_ok-arrival_of.ensures.items_if_clones_equal (λ y h. search rules) in
    record {
      orderly = subst (λ (l : PriorityListsView g.row.B.Denot). IsOrderly (record { jobs = l.jobs; room = l.room; arrived = 0 })) (sym lists) (orderly_new c.args.room);
      arrivals = subst (λ (noted : List (Option ℕ)). AreArrivals noted c.in_ok-lists.lists.jobs) (sym none)
          (subst (λ (l : PriorityListsView g.row.B.Denot). AreArrivals (replicate 1024 None) l.jobs) (sym lists) (arrivals_new 1024));
    }
