use Rattle.swift_shared_book.proofs.Prelude.{◌≡◌}
use Rattle.swift_shared_book.proofs.lock.Lock.lock_awake.Given as goal

abbrev pub invariant-looks : goal.invariant-looks
invariant-looks g l = l.seat ≡ l.initial.seat
