use Rattle.swift_executor.proofs.Prelude.{◌≡◌, ◌<◌, get_or, is_some, false, ℕ, List, None, Option, IfSome, ◌∙◌, lit<, length, map, ap, sym, subst, arith, get_or_default, length-map, IsPermutation-refl, length_permutation, IsPermutation, HasArrival, raised, IsOrderly, IsWithout, QueueView, Waiting}
use Rattle.swift_executor.proofs.ArrivalsStayRight.{arrivals_raise, no_arrival}
use Rattle.swift_executor.proofs.QueueStaysOrderly.{orderly_raise}
use Rattle.swift_executor.proofs.RaiseChangesOne.{raise_without}
use Rattle.swift_executor.proofs.queue.Queue.raise.Goals as goal
use Rattle.swift_executor.proofs.queue.Queue.raise.Goals.{then-at-len+else-is_none, else-at-len}

pub invariant_of-self : goal.invariant_of-self
invariant_of-self g c =
    let x = c.self.inside in
    let old : QueueView g.row.B.Denot = record { jobs = x.lists.jobs; room = x.lists.room; arrived = x.arrived } in
    let new = c.raise.new.self.jobs in
    record {
      orderly = subst (λ (n : ℕ). IsOrderly (record { jobs = new; room = n; arrived = x.arrived })) (sym c.raise.ensures.room) (orderly_raise old c.args.task c.args.priority new c.self.invariant.orderly c.raise.ensures.jobs);
      arrivals = arrivals_raise x.arrival_of.items c.args.task c.args.priority x.lists.jobs new c.self.invariant.arrivals c.raise.ensures.jobs;
    }

pub returns-clause-len : goal.returns-clause-len
returns-clause-len g c =
    let jobs = c.self.inside.lists.jobs in
    let r : Waiting g.row.B.Denot → Waiting g.row.B.Denot = raised {B = g.row.B.Denot} c.args.task c.args.priority in
    let view = ap (λ (q : QueueView g.row.B.Denot). length q.jobs) c.self.view_is in
    let len = length_permutation (map r jobs) c.raise.new.self.jobs c.raise.ensures.jobs in
    let size = length-map jobs r in
    omega (arith, view, len, size)

pub raise-requires : goal.raise-requires
raise-requires g c =
    let x = c.self.inside in
    let jobs = x.lists.jobs in
    let known : IfSome c.if-at-len.arrival (HasArrival jobs c.args.task) = elim c.if-at-len.branch [
      | then-at-len+else-is_none w ↦
          let ok = x.arrival_of.ok in
          let lt : c.args.task.0 < length x.arrival_of.items = omega (arith, w.if-at-len.true, c.len.ensures, ok) in
          let read = w.arrival-is ∙ w.index.ensures ∙ get_or_default x.arrival_of.items c.args.task.0 w.index.result.now None lt in
          subst (λ (o : Option ℕ). IfSome o (HasArrival jobs c.args.task)) (sym read) (c.self.invariant.arrivals c.args.task.0 lt).some
      | else-at-len w ↦ subst (λ (o : Option ℕ). IfSome o (HasArrival jobs c.args.task)) (sym w.arrival-is) tt
    ] in
    let h = c.self.invariant.orderly in
    (lit< tt, (known, (h.arrivals, (h.tasks, h.few))))

pub returns-then-is_none-clause-jobs : goal.returns-then-is_none-clause-jobs
returns-then-is_none-clause-jobs g c =
    let x = c.self.inside in
    let ok = x.arrival_of.ok in
    let lt : c.args.task.0 < length x.arrival_of.items = omega (arith, c.if-at-len.true, c.len.ensures, ok) in
    let read = c.index.ensures ∙ get_or_default x.arrival_of.items c.args.task.0 c.index.result.now None lt in
    let empty : is_some (get_or x.arrival_of.items c.args.task.0 None) ≡ false = ap is_some (sym read) ∙ c.if-is_none.ensures in
    let without = no_arrival (get_or x.arrival_of.items c.args.task.0 None) x.lists.jobs c.args.task (c.self.invariant.arrivals c.args.task.0 lt) empty in
    let jobs = c.args.self.now.jobs in
    let here : IsWithout jobs c.args.task = subst (λ (q : QueueView g.row.B.Denot). IsWithout q.jobs c.args.task) c.self.view_is without in
    subst (λ (s : List (Waiting g.row.B.Denot)). IsPermutation s jobs) (sym (raise_without c.args.task c.args.priority jobs here)) (IsPermutation-refl jobs)
