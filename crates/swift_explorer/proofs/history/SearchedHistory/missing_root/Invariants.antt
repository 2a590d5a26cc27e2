use Rattle.swift_explorer.proofs.Prelude.{AreThere}
use Rattle.swift_explorer.proofs.history.SearchedHistory.missing_root.Given as goal

abbrev pub invariant-loop-place : goal.invariant-loop-place
invariant-loop-place l = AreThere l.place l.self.steps.book.log
