use Rattle.swift_explorer.specs.declared.moves.Move.TheVariants as step
use Rattle.swift_explorer.proofs.Prelude.{HasEach, IsUnderWay}
use Rattle.swift_explorer.proofs.history.SearchedHistory.push_runs.Given as goal

abbrev pub invariant-loop-place : goal.invariant-loop-place
invariant-loop-place l = HasEach step.Run IsUnderWay l.self l.place l.moves.items
