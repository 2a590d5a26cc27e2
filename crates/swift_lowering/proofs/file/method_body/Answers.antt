use Rattle.swift_lowering.proofs.Filed.{statements_body, value_body}
use Rattle.swift_lowering.proofs.file.method_body.Goals as goal

pub returns-then-is_returned-clause-body : goal.returns-then-is_returned-clause-body
returns-then-is_returned-clause-body c = λ n. let n1 = c.put.ensures.refused n in value_body c.lone_value-lone.ensures c.is_returned.ensures c.if-is_returned.true (c.expression-found.ensures.lowers (c.want.ensures.refused n1)) (c.want.ensures.state n1) (c.put.ensures.state n)

pub returns-clause-body : goal.returns-clause-body
returns-clause-body c = λ n. statements_body c.lone_value-lone.ensures c.is_returned.ensures c.if-is_returned.false (c.body_statements.ensures.does (c.want_return.ensures.refused n)) (c.want_return.ensures.state n)
