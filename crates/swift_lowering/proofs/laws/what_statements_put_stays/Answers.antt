use Rattle.swift_lowering.proofs.Growing.{does_grow}
use Rattle.swift_lowering.proofs.Grown.{plain_grows}
use Rattle.swift_lowering.proofs.laws.what_statements_put_stays.Goals as goal

pub returns-clause-plain : goal.returns-clause-plain
returns-clause-plain c = λ s t token form h. plain_grows h

pub returns-clause-any : goal.returns-clause-any
returns-clause-any c = λ s t stmt h. does_grow h
