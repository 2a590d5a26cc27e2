use Rattle.swift_executor.specs.Inbox.{IsPassOf}
use Rattle.swift_executor.specs.Site.{CanRunAt}
use Rattle.test_executors.proofs.inbox.put_at_last.Given as goal

abbrev pub invariant-loop : goal.invariant-loop
invariant-loop g l =
    (goal.iterator-loop g).can_next l.iterator' × (goal.iterator-loop g).is_finite l.iterator' × IsPassOf l.inbox l.pass × CanRunAt l.inbox.site l.waiting
