use Rattle.swift_laws.proofs.OpenScripts.{accepted_closes}
use Rattle.swift_laws.proofs.accepted.accepted_scripts_close_groups.Goals as goal

pub returns : goal.returns
returns c = accepted_closes
