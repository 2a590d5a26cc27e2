use Rattle.swift_workers.proofs.Prelude.{◌≡◌, ◌<◌, vec_len, AreHandsOf, IsPoolSeatOf}
use Rattle.swift_workers.proofs.whole.fn.start.scope.Given as goal

abbrev pub invariant-loop-hand : goal.invariant-loop-hand
invariant-loop-hand g l = record {
  others : AreHandsOf l.crew.book.now l.crew.execs.now l.others.items;
  place : IsPoolSeatOf l.crew.pool.now l.place;
  owes : l.place.known.view.owes ≡ 0;
  parts : vec_len l.others < l.place.known.view.parts;
}

abbrev pub decreases-loop-hand : goal.decreases-loop-hand
decreases-loop-hand g l = vec_len l.others
