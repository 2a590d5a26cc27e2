use Rattle.std.proofs.Common.{sym, ap, ◌∙◌}
use Rattle.swift_syntax.specs.declared.tree.Expr.{Expr}
use Rattle.swift_lowering.specs.Statements as statements
use Rattle.swift_lowering.proofs.effect.effect.Goals as goal

pub returns-in-TryOptional-clause-lets_go : goal.returns-in-TryOptional-clause-lets_go
returns-in-TryOptional-clause-lets_go c = λ n. c.ignore_fault.ensures.lets_go c.args.place (sym (ap (λ (x : Expr). x.form) c.expr-expr.ensures) ∙ c.in-TryOptional.is) n

pub returns-then-spells-clause-lets_go : goal.returns-then-spells-clause-lets_go
returns-then-spells-clause-lets_go c = λ n. statements.printed (c.is_said.ensures.said c.if-is_said.true _ _ (sym (ap (λ (x : Expr). x.form) c.expr-expr.ensures) ∙ c.in-Call.is)) (c.print.ensures.grows n)

pub returns-else-spells-clause-lets_go : goal.returns-else-spells-clause-lets_go
returns-else-spells-clause-lets_go c = λ n.
    let e = sym (ap (λ (x : Expr). x.form) c.expr-expr.ensures) ∙ c.in-Call.is in
    statements.required (c.is_said.ensures.said c.if-is_said.true _ _ e) e (c.require.ensures.required n)

pub returns-in_default-clause-lets_go : goal.returns-in_default-clause-lets_go
returns-in_default-clause-lets_go c = λ n. statements.computed (c.expression.ensures.lowers n)
