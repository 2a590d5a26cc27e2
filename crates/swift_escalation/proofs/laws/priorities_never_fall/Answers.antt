use Rattle.swift_escalation.proofs.Record.{given_more, reaches_more}
use Rattle.swift_escalation.proofs.laws.priorities_never_fall.Goals as goal

-- what gave the old priority gives it still, and reaches the task still
pub returns : goal.returns
returns c es more t p q old new =
    let g = old.given in
    new.greatest g.0 g.1 p (given_more es more g.0 p g.2) (reaches_more es more g.1 g.0 t g.3)
