use Rattle.std.proofs.Common.{refl}
use Rattle.swift_lowering.specs.Closures as closures
use Rattle.swift_lowering.proofs.Enclosed.{captured_by}
use Rattle.swift_lowering.proofs.capture.capture.Goals as goal

pub returns-in_default-clause-captures : goal.returns-in_default-clause-captures
returns-in_default-clause-captures c = λ n. closures.not_captured c.in_default.ensures.none refl refl

pub returns-then-may_be_handed-clause-captures : goal.returns-then-may_be_handed-clause-captures
returns-then-may_be_handed-clause-captures c = λ n2. captured_by c.in-Some.ensures.found (c.may_be_handed.ensures c.if-may_be_handed.true) (c.hand_over-operand.ensures.state (c.receive.ensures.refused n2)) (c.hand_over-operand.ensures.place (c.receive.ensures.refused n2)) (c.receive.ensures.receives n2)
