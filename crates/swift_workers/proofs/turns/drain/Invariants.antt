use Rattle.swift_workers.proofs.Prelude.{◌≡◌, ◌≢◌, ◌<◌, Some, true, false, Stop, IsHandOf, stops, takes, IsPoolSeatOf}
use Rattle.swift_workers.proofs.turns.drain.Given as goal

abbrev pub invariant-loop : goal.invariant-loop
invariant-loop g l = record {
  hand : l.next ≢ Stop → IsHandOf l.crew.book.now l.crew.execs.now l.hand;
  seat : IsPoolSeatOf l.crew.pool.now l.seat;
  owes : l.seat.known.view.owes ≡ takes (Some l.next);
  parts : 0 < l.seat.known.view.parts;
  over : stops false (Some l.next) ≡ true → l.seat.known.view.over ≡ true;
}
