use Rattle.swift_syntax.proofs.Unique.{unique}
use Rattle.swift_syntax.proofs.laws.one_reading.Goals as goal

pub returns : goal.returns
returns c = λ text a b da db. unique b da db
