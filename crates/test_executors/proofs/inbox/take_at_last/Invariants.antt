use Rattle.swift_executor.specs.Inbox.{IsTakerOf}
use Rattle.test_executors.proofs.inbox.take_at_last.Given as goal

abbrev pub invariant-loop : goal.invariant-loop
invariant-loop g l =
    (goal.iterator-loop g).can_next l.iterator' × (goal.iterator-loop g).is_finite l.iterator' × IsTakerOf l.inbox l.taker
