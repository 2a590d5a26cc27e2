use Rattle.std.proofs.Common.{sym, ◌∙◌}
use Rattle.swift_lowering.specs.Statements as statements
use Rattle.swift_lowering.proofs.Stated.{plain_by}
use Rattle.swift_lowering.proofs.effect.simple.Goals as goal

pub returns-then-is_let_go-clause-does : goal.returns-then-is_let_go-clause-does
returns-then-is_let_go-clause-does c = λ n. plain_by c.in-Value.is (statements.lets_go (sym c.is_let_go.ensures ∙ c.if-is_let_go.true) (c.effect.ensures.lets_go n))

pub returns-else-is_let_go-clause-does : goal.returns-else-is_let_go-clause-does
returns-else-is_let_go-clause-does c = λ n. plain_by c.in-Value.is (statements.gives (sym c.is_let_go.ensures ∙ c.if-is_let_go.false) (c.expression-found.ensures.lowers (c.give.ensures.refused n)) (c.give.ensures.gives n))

pub returns-in-Assign-clause-does : goal.returns-in-Assign-clause-does
returns-in-Assign-clause-does c = λ n. plain_by c.in-Assign.is (statements.assigns (c.assign.ensures.assigns n))

pub returns-in-Toggle-clause-does : goal.returns-in-Toggle-clause-does
returns-in-Toggle-clause-does c = λ n. let d = c.toggle.ensures.state n in plain_by c.in-Toggle.is (statements.toggles d.0 d.1 d.2)

pub returns-in-Return-clause-does : goal.returns-in-Return-clause-does
returns-in-Return-clause-does c = λ n. plain_by c.in-Return.is (statements.returns (c.give_nothing.ensures.state n))

pub returns-in-Throw-clause-does : goal.returns-in-Throw-clause-does
returns-in-Throw-clause-does c = λ n. let d = c.throw.ensures.state n in plain_by c.in-Throw.is (statements.throws d.0 d.1 d.2)
