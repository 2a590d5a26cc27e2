use Rattle.swift_laws.proofs.OpenReports.{owners_go_on}
use Rattle.swift_laws.proofs.ended.owners_go_on_after_their_children.Goals as goal

pub returns : goal.returns
returns c = owners_go_on
