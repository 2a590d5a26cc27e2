use Rattle.swift_executor.proofs.Prelude.{ℕ, ◌+◌, ◌<◌, List, ◌∷◌, length, set, Some, ap, sym, subst, ◌∙◌, arith, length_permutation, TaskId, AreArrivals, IsOrderly, IsWithout, QueueView, waiting, Waiting}
use Rattle.swift_executor.proofs.ArrivalsStayRight.{arrivals_add}
use Rattle.swift_executor.proofs.QueueStaysOrderly.{orderly_add}
use Rattle.swift_executor.proofs.queue.Queue.put.Goals as goal

pub invariant_of-self : goal.invariant_of-self
invariant_of-self g c =
    let x = c.self.inside in
    let old : QueueView g.row.B.Denot = record { jobs = x.lists.jobs; room = x.lists.room; arrived = x.arrived } in
    let job : Waiting g.row.B.Denot = waiting c.args.job c.args.priority x.arrived in
    let new = c.push.new.self.jobs in
    let room : length old.jobs < old.room = subst (λ (q : QueueView g.row.B.Denot). length q.jobs < q.room) (sym c.self.view_is) c.requires.room in
    let without : IsWithout old.jobs c.args.job.task = subst (λ (q : QueueView g.row.B.Denot). IsWithout q.jobs c.args.job.task) (sym c.self.view_is) c.requires.without in
    let orderly = orderly_add old job new (x.arrived + 1) c.self.invariant.orderly c.push.ensures.jobs room (omega arith) (omega arith)
    (λ k d l. let b = c.self.invariant.orderly.below k d l in omega (arith, b)) without in
    record {
      orderly = subst (λ (n : ℕ). IsOrderly (record { jobs = new; room = n; arrived = x.arrived + 1 })) (sym c.push.ensures.room) orderly;
      arrivals = subst (λ (s : List _). AreArrivals s new) (sym (c.note.ensures ∙ ap (λ (t : TaskId). set x.arrival_of.items t.0 (Some x.arrived)) c.task.ensures)) (arrivals_add x.arrival_of.items job x.lists.jobs new c.self.invariant.arrivals without c.push.ensures.jobs);
    }

pub returns-clause-len : goal.returns-clause-len
returns-clause-len g c =
    let x = c.self.inside in
    let view = ap (λ (q : QueueView g.row.B.Denot). length q.jobs) c.self.view_is in
    let job : Waiting g.row.B.Denot = waiting c.args.job c.args.priority x.arrived in
    let len = length_permutation (job ∷ x.lists.jobs) c.push.new.self.jobs c.push.ensures.jobs in
    omega (arith, view, len)
