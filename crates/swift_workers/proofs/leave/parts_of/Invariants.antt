use Rattle.swift_workers.proofs.Prelude.{◌≡◌, length, IsSeatOf, AreParts}
use Rattle.swift_workers.proofs.leave.parts_of.Given as goal

-- the executors that were closed are the first ones of those that were given
abbrev pub invariant-loop-exec : goal.invariant-loop-exec
invariant-loop-exec g l = record {
  can_next : (goal.iterator-loop-exec g).can_next l.exec-iterator;
  is_finite : (goal.iterator-loop-exec g).is_finite l.exec-iterator;
  seat : IsSeatOf l.book l.seat;
  maker : l.seat.knows.maker ≡ l.fn.seat.knows.maker;
  parts : AreParts l.book.script l.seat.knows (length l.yielded) l.parts;
}
