use Rattle.std.proofs.Common.{◌≡◌, w64, to_z, of_z, ap, refl, rules, ◌∙◌}
use Rattle.swift_syntax.specs.declared.tree.ExprForm.TheVariants as expr
use Rattle.swift_lowering.specs.Statements as statements
use Rattle.swift_lowering.proofs.Stated.{thrown_read}
use Rattle.swift_lowering.proofs.assignment.thrown.Goals as goal

pub returns-in-Member-clause-thrown : goal.returns-in-Member-clause-thrown
returns-in-Member-clause-thrown c = λ n.
    let same : to_z w64 (of_z w64 c.case_number.result) ≡ c.case_number.result = search rules in
    thrown_read c.expr-expr.ensures same (statements.a_case c.in-Member.is (c.case_number.ensures.number n))

pub returns-then-is_cancellation-clause-thrown : goal.returns-then-is_cancellation-clause-thrown
returns-then-is_cancellation-clause-thrown c = λ n.
    let is = c.is_cancellation.ensures.0 c.if-is_cancellation.true in
    thrown_read c.expr-expr.ensures refl (statements.a_cancellation (c.in-Call.is ∙ ap (expr.Call c.in-Call.field-0) is.0) is.1 refl)
