use Rattle.swift_laws.proofs.HistoriesGiven.{given_are_applied}
use Rattle.swift_laws.proofs.laws.given_jobs_are_applied.Goals as goal

pub returns : goal.returns
returns c = given_are_applied
