use Rattle.swift_laws.proofs.HistoriesMade.{made_once}
use Rattle.swift_laws.proofs.locals.each_task_is_made_once.Goals as goal

pub returns : goal.returns
returns c = made_once
