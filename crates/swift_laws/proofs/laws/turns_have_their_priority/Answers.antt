use Rattle.swift_laws.proofs.HistoriesBegun.{begins_by}
use Rattle.swift_laws.proofs.laws.turns_have_their_priority.Goals as goal

pub returns : goal.returns
returns c = begins_by
