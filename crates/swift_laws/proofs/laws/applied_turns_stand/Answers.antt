use Rattle.swift_laws.proofs.HistoriesApplied.{applied_stands}
use Rattle.swift_laws.proofs.laws.applied_turns_stand.Goals as goal

pub returns : goal.returns
returns c = applied_stands
