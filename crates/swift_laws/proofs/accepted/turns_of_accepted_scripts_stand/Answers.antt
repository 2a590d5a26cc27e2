use Rattle.swift_laws.proofs.OpenReports.{turns_stand}
use Rattle.swift_laws.proofs.accepted.turns_of_accepted_scripts_stand.Goals as goal

pub returns : goal.returns
returns c = turns_stand c.applied_turns_stand.ensures
