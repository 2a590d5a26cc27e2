use Rattle.swift_workers.proofs.Prelude.{take, AreDesksOf}
use Rattle.swift_workers.proofs.crew.split_all.Given as goal

-- the desks stay, and there are as many others as were split
abbrev pub invariant-loop-place : goal.invariant-loop-place
invariant-loop-place l = record {
  kept : AreDesksOf l.execs l.desks.items;
  others : AreDesksOf (take l.place l.execs) l.others.items;
}
