use Rattle.swift_lowering.proofs.Blocked.{names_end, names_of_do_end}
use Rattle.swift_lowering.proofs.laws.names_end_with_their_block.Goals as goal

pub returns-clause-block : goal.returns-clause-block
returns-clause-block c = λ s t first h. names_end h

pub returns-clause-of_do : goal.returns-clause-of_do
returns-clause-of_do c = λ s t flag token first h. names_of_do_end h
