use Rattle.swift_executor.specs.Inbox.{IsTakerOf}
use Rattle.test_executors.proofs.inbox.take_all.Given as goal

abbrev pub invariant-loop : goal.invariant-loop
invariant-loop g l = IsTakerOf l.inbox l.taker
