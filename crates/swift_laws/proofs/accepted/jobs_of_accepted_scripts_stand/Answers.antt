use Rattle.swift_laws.proofs.HistoriesGiven.{jobs_stand}
use Rattle.swift_laws.proofs.accepted.jobs_of_accepted_scripts_stand.Goals as goal

pub returns : goal.returns
returns c = jobs_stand c.turns_of_accepted_scripts_stand.ensures c.given_jobs_are_applied.ensures c.turns_are_numbered.ensures
