use Rattle.swift_tasks.proofs.Prelude.{ℕ, ◌+◌, ◌∙◌, ap, sym, add-one, drop, arith, List, TaskId, waiters_of, AfterTurn, wake, wake_each, follows_of}
use Rattle.swift_tasks.proofs.HeldTaken.{wake_next, got_in, got_none}
use Rattle.swift_tasks.proofs.waking.wake_waiters.Goals as goal

pub wake-preserved : goal.wake-preserved
wake-preserved c =
    let us : List TaskId = waiters_of c.args.task.0 c.args.ledger.now.log in
    let k : ℕ = c.wake.place in
    let was : AfterTurn = follows_of c.wake.held c.wake.jobs.items in
    let is = sym c.waiter.ensures.waiter ∙ c.in-Some.is in
    let lt = got_in us k c.in-Some.waiter is in
    record {
      follows = ap (wake_each (drop (k + 1) us) c.args.resume) c.wake-in-Some.ensures.follows
          ∙ ap (λ (n : ℕ). wake_each (drop n us) c.args.resume (wake c.in-Some.waiter.0 c.args.resume was)) (add-one k)
          ∙ sym (wake_next us k c.in-Some.waiter c.args.resume was is) ∙ c.wake.invariant.follows;
      bodies = λ script held. (let b = c.wake.invariant.bodies script held in let d = c.wake-in-Some.ensures.bodies script b.0 in (d.0, λ jobs. d.1 (b.1 jobs)));
      few = (let a = c.wake.invariant.few in let b = c.wake-in-Some.ensures.few in omega (arith, a, b));
      capacity = c.wake-in-Some.ensures.capacity ∙ c.wake.invariant.capacity;
      there = omega (arith, lt);
    }

pub returns-clause-follows : goal.returns-clause-follows
returns-clause-follows c =
    let us : List TaskId = waiters_of c.args.task.0 c.args.ledger.now.log in
    let was : AfterTurn = follows_of c.wake.held c.wake.jobs.items in
    sym (ap (λ (vs : List TaskId). wake_each vs c.args.resume was) (got_none us c.wake.place (sym c.waiter.ensures.waiter ∙ c.in_default.is))) ∙ c.wake.invariant.follows
