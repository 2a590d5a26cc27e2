use Rattle.swift_explorer.proofs.Prelude.{HaveClosed}
use Rattle.swift_explorer.proofs.history.SearchedHistory.has_closed_all.Given as goal

abbrev pub invariant-loop-place : goal.invariant-loop-place
invariant-loop-place l = HaveClosed l.self.steps.book.log l.place
