use Rattle.swift_workers.proofs.Prelude.{◌≡◌, length, arc_value, executor_count, AreAtSites, AreDesksOf}
use Rattle.swift_workers.proofs.Opening.{OpenedFrom}
use Rattle.swift_workers.proofs.crew.open_all.Given as goal

abbrev pub invariant-loop-place : goal.invariant-loop-place
invariant-loop-place l = record {
  sites : AreAtSites l.book l.execs.items;
  seat : OpenedFrom l.fn.seat l.place l.seat;
  desks : AreDesksOf l.execs.items l.desks.items;
  many : length l.execs.items ≡ l.place;
  end : l.place-end ≡ executor_count (arc_value l.script);
}
