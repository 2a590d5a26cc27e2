use Rattle.swift_explorer.proofs.Prelude.{HasSeen}
use Rattle.swift_explorer.proofs.search.Search.dive_on.Given as goal

abbrev pub invariant-loop : goal.invariant-loop
invariant-loop l = HasSeen l.fn.self l.self
