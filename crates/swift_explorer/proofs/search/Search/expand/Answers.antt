use Rattle.swift_explorer.proofs.Prelude.{sym, subst, on_ok_weaker, HasGrown}
use Rattle.swift_explorer.proofs.Growing.{grown_on}
use Rattle.swift_explorer.proofs.HistoriesTaken.{grown_taken}
use Rattle.swift_explorer.proofs.search.Search.expand.Goals as goal

pub returns-clause-grown : goal.returns-clause-grown
returns-clause-grown c =
    let x = c.args.self.now in
    let w = c.history_at.new.self in
    let z = c.go_on_from.new.self in
    on_ok_weaker c.go_on_from.result (λ grown. grown_on x w z (subst (HasGrown x) (sym c.history_at.ensures.rest) (grown_taken x w)) grown) c.go_on_from.ensures.grown
