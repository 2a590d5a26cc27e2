use Rattle.swift_lowering.specs.Groups as groups
use Rattle.swift_lowering.proofs.statement.give_closed.Goals as goal

pub returns-in_default-clause-gives : goal.returns-in_default-clause-gives
returns-in_default-clause-gives c = λ n. let w = c.in_default.ensures.nowhere n in groups.nowhere w.0 w.1

pub returns-clause-gives : goal.returns-clause-gives
returns-clause-gives c = λ n2. groups.somewhere (c.in-Some.ensures.given (c.give.ensures.refused n2)) (c.give.ensures.gives n2)
