use Rattle.swift_interpreter.proofs.Prelude.{ap, goes}
use Rattle.swift_interpreter.proofs.step.end_block.Goals as goal

pub returns-clause-next : goal.returns-clause-next
returns-clause-next c = λ at. ap goes (c.unbind.ensures.state at)
