use Rattle.std.proofs.Common.{length, ap, ◌∙◌}
use Rattle.swift_expressions.specs.States.{State}
use Rattle.swift_lowering.proofs.capture.hand_over.Goals as goal

pub returns-clause-place : goal.returns-clause-place
returns-clause-place c = λ n2. c.operand.ensures.place ∙ ap (λ (x : State). length x.operands) (c.value-value.ensures.state (c.operand.ensures.refused n2))
