use Rattle.std.proofs.Common.{◌≡◌, Some}
use Rattle.swift_executor.specs.Inbox.{IsPassOf, IsTakerOf}
use Rattle.test_executors.proofs.inbox.calls.Given as goal

abbrev pub invariant-loop-line : goal.invariant-loop-line
invariant-loop-line g l =
    (goal.iterator-loop-line g).can_next l.line-iterator × (goal.iterator-loop-line g).is_finite l.line-iterator × IsPassOf l.inbox l.a × IsPassOf l.inbox l.b × IsTakerOf l.inbox l.taker × (l.inbox.site.book ≡ Some l.booked)
