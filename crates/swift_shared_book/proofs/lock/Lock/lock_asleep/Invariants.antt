use Rattle.swift_shared_book.proofs.Prelude.{◌≡◌}
use Rattle.swift_shared_book.proofs.lock.Lock.lock_asleep.Given as goal

abbrev pub invariant-waits : goal.invariant-waits
invariant-waits g l = l.seat ≡ l.initial.seat
