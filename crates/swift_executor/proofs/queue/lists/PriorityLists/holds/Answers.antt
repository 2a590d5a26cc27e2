use Rattle.swift_executor.proofs.Prelude.{◌≡◌, Bool, ◌↔◌, false, is_some, sym, subst, PriorityListsView, IsWithout}
use Rattle.swift_executor.proofs.RaiseChangesOne.{found_or_without}
use Rattle.swift_executor.proofs.queue.lists.PriorityLists.holds.Goals as goal

pub returns : goal.returns
returns g c =
    subst (λ (b : Bool). (b ≡ false) ↔ IsWithout c.args.self.now.jobs c.args.task) (sym c.is_some.ensures)
    (subst (λ (q : PriorityListsView g.row.B.Denot). (is_some c.find_below.result ≡ false) ↔ IsWithout q.jobs c.args.task) c.self.view_is (found_or_without c.self.inside.room c.self.inside.lists c.args.task c.find_below.result c.self.invariant c.find_below.ensures.none c.find_below.ensures.some))
