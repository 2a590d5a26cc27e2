use Rattle.swift_executor.proofs.Prelude.{IsAt, IsOfBook, HasStayed}
use Rattle.swift_executor.proofs.run.accept_all.Given as goal

abbrev pub invariant-loop : goal.invariant-loop
invariant-loop g l = IsAt l.inbox l.held.taker l.held.seat l.held.state × IsOfBook l.book l.held × HasStayed l.initial.held l.held
