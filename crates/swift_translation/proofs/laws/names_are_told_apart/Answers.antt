use Rattle.swift_translation.proofs.Names.{apart}
use Rattle.swift_translation.proofs.laws.names_are_told_apart.Goals as goal

pub returns : goal.returns
returns c = record { law = apart }
