use Rattle.swift_executor.proofs.Prelude.{ℕ, List, ◌∷◌, length, ap, sym, subst, arith, ◌∙◌, length_permutation, AreArrivals, PriorityListsView, QueueInvariant, JobView, IsOlder, IsOrderly, IsRestorable, QueueView, TakesFirst}
use Rattle.swift_executor.proofs.ArrivalsStayRight.{arrivals_take}
use Rattle.swift_executor.proofs.QueueStaysOrderly.{orderly_take, restorable}
use Rattle.swift_executor.proofs.queue.Queue.take_oldest.Goals as goal

pub invariant_of-self : goal.invariant_of-self
invariant_of-self g c =
    let x = c.self.inside in
    let old : QueueView g.row.B.Denot = record { jobs = x.lists.jobs; room = x.lists.room; arrived = x.arrived } in
    let job = c.in-Some.taken in
    let new = c.take_oldest.new.self.jobs in
    record {
      orderly = subst (λ (n : ℕ). IsOrderly (record { jobs = new; room = n; arrived = x.arrived })) (sym c.take_oldest.ensures.room) (orderly_take old job new c.self.invariant.orderly c.in-Some.ensures.rest);
      arrivals = subst (λ (s : List _). AreArrivals s new) (sym c.hand_out.ensures.noted)
          (arrivals_take x.arrival_of.items job x.lists.jobs new c.self.invariant.arrivals c.self.invariant.orderly.tasks c.in-Some.ensures.rest);
    }

pub returns-in-Some-clause-len : goal.returns-in-Some-clause-len
returns-in-Some-clause-len g c =
    let view = ap (λ (q : QueueView g.row.B.Denot). length q.jobs) c.self.view_is in
    let len = length_permutation c.self.inside.lists.jobs (c.in-Some.taken ∷ c.take_oldest.new.self.jobs) c.in-Some.ensures.rest in
    omega (arith, view, len)

pub returns-in-Some-clause-restorable : goal.returns-in-Some-clause-restorable
returns-in-Some-clause-restorable g c =
    let x = c.self.inside in
    let old : QueueView g.row.B.Denot = record { jobs = x.lists.jobs; room = x.lists.room; arrived = x.arrived } in
    let job = c.in-Some.taken in
    let new = c.take_oldest.new.self.jobs in
    subst (λ (r : JobView g.row.B.Denot × ℕ). IsRestorable (record { jobs = new; room = c.take_oldest.new.self.room; arrived = x.arrived }) r.0.task r.1) (sym c.hand_out.ensures.job)
    (subst (λ (n : ℕ). IsRestorable (record { jobs = new; room = n; arrived = x.arrived }) job.job.task job.arrival) (sym c.take_oldest.ensures.room) (restorable old job new c.self.invariant.orderly c.in-Some.ensures.rest))

pub returns-in-Some-clause-first : goal.returns-in-Some-clause-first
returns-in-Some-clause-first g c =
    let job = c.in-Some.taken in
    let new = c.take_oldest.new.self.jobs in
    let takes : TakesFirst IsOlder c.self.inside.lists.jobs job.job job.arrival new = record { priority = job.priority; first = c.in-Some.ensures.first; rest = c.in-Some.ensures.rest } in
    subst (λ (r : JobView g.row.B.Denot × ℕ). TakesFirst IsOlder c.args.self.now.jobs r.0 r.1 new) (sym c.hand_out.ensures.job)
    (subst (λ (q : QueueView g.row.B.Denot). TakesFirst IsOlder q.jobs job.job job.arrival new) c.self.view_is takes)

pub invariant_of-self-in-None : goal.invariant_of-self-in-None
invariant_of-self-in-None g c =
    let x = c.self.inside in
    subst (λ (lists : PriorityListsView g.row.B.Denot). QueueInvariant {B = g.row.B.Denot} (record { lists = lists; arrival_of = x.arrival_of; arrived = x.arrived })) (sym c.in-None.ensures.none) c.self.invariant

pub returns-in-None-clause-none : goal.returns-in-None-clause-none
returns-in-None-clause-none g c =
    ap (λ (lists : PriorityListsView g.row.B.Denot). record c.args.self.now { jobs = lists.jobs; room = lists.room; arrived = c.self.inside.arrived }) c.in-None.ensures.none ∙ c.self.view_is
