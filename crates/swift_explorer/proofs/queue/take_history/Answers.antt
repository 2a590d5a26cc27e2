use Rattle.swift_explorer.proofs.Prelude.{◌∙◌, sym}
use Rattle.swift_explorer.proofs.HistoriesTaken.{emptied}
use Rattle.swift_explorer.proofs.queue.take_history.Goals as goal

pub returns-in-Some-clause-found : goal.returns-in-Some-clause-found
returns-in-Some-clause-found c = (c.in-Some.kept, sym c.remove.ensures.value ∙ c.in-Some.is, sym c.into_history.ensures)

pub returns-in-Some-clause-rest : goal.returns-in-Some-clause-rest
returns-in-Some-clause-rest c = λ q k at. emptied _ _ _ (c.remove.ensures.updates.0 q) k at
