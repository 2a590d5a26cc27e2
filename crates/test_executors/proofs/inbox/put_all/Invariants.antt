use Rattle.std.proofs.Common.{◌≡◌}
use Rattle.swift_executor.specs.Inbox.{IsPassOf}
use Rattle.test_executors.proofs.inbox.put_all.Given as goal

abbrev pub invariant-putting : goal.invariant-putting
invariant-putting g l = IsPassOf l.inbox l.pass × (l.jobs.book ≡ l.book.id)
