use Rattle.swift_workers.proofs.Prelude.{IsHandOf}
use Rattle.swift_workers.proofs.turns.visits_at.Given as goal

abbrev pub invariant-loop : goal.invariant-loop
invariant-loop g l = IsHandOf l.crew.book.now l.crew.execs.now l.hand
