use Rattle.swift_explorer.proofs.Prelude.{RunsAhead}
use Rattle.swift_explorer.proofs.history.SearchedHistory.run_ahead.Given as goal

abbrev pub invariant-turns : goal.invariant-turns
invariant-turns l = RunsAhead l.fn.self l.self l.fn.moves.items l.moves.items
