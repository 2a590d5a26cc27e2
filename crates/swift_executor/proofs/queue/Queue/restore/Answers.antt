use Rattle.swift_executor.proofs.Prelude.{ℕ, List, ◌∷◌, length, set, Some, ap, sym, subst, ◌∙◌, arith, length_permutation, TaskId, AreArrivals, IsOrderly, IsRestorable, QueueView, waiting, Waiting}
use Rattle.swift_executor.proofs.ArrivalsStayRight.{arrivals_add}
use Rattle.swift_executor.proofs.QueueStaysOrderly.{orderly_add}
use Rattle.swift_executor.proofs.queue.Queue.restore.Goals as goal

pub invariant_of-self : goal.invariant_of-self
invariant_of-self g c =
    let x = c.self.inside in
    let old : QueueView g.row.B.Denot = record { jobs = x.lists.jobs; room = x.lists.room; arrived = x.arrived } in
    let job : Waiting g.row.B.Denot = waiting c.args.job c.args.priority c.args.arrival in
    let new = c.insert.new.self.jobs in
    let can : IsRestorable old c.args.job.task c.args.arrival = subst (λ (q : QueueView g.row.B.Denot). IsRestorable q c.args.job.task c.args.arrival) (sym c.self.view_is) c.requires in
    let orderly = orderly_add old job new x.arrived c.self.invariant.orderly c.insert.ensures.jobs can.room (omega arith) can.below can.apart can.without in
    record {
      orderly = subst (λ (n : ℕ). IsOrderly (record { jobs = new; room = n; arrived = x.arrived })) (sym c.insert.ensures.room) orderly;
      arrivals = subst (λ (s : List _). AreArrivals s new) (sym (c.note.ensures ∙ ap (λ (t : TaskId). set x.arrival_of.items t.0 (Some c.args.arrival)) c.task.ensures)) (arrivals_add x.arrival_of.items job x.lists.jobs new c.self.invariant.arrivals can.without c.insert.ensures.jobs);
    }

pub returns-clause-len : goal.returns-clause-len
returns-clause-len g c =
    let x = c.self.inside in
    let view = ap (λ (q : QueueView g.row.B.Denot). length q.jobs) c.self.view_is in
    let job : Waiting g.row.B.Denot = waiting c.args.job c.args.priority c.args.arrival in
    let len = length_permutation (job ∷ x.lists.jobs) c.insert.new.self.jobs c.insert.ensures.jobs in
    omega (arith, view, len)
