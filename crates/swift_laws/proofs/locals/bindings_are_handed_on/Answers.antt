use Rattle.swift_laws.proofs.HistoriesHandedOn.{handed_on}
use Rattle.swift_laws.proofs.locals.bindings_are_handed_on.Goals as goal

pub returns : goal.returns
returns c = handed_on
