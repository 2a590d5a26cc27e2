use Rattle.swift_laws.proofs.HistoriesLocals.{finds_inherited}
use Rattle.swift_laws.proofs.locals.locals_are_inherited.Goals as goal

pub returns : goal.returns
returns c = finds_inherited
