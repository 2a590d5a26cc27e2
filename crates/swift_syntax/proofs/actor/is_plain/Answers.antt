use Rattle.std.proofs.Common.{sym, ap, ◌∙◌}
use Rattle.swift_syntax.specs.Declarations.{IsPlain, plain_literal, plain_name}
use Rattle.swift_syntax.specs.declared.tree.ExprForm.TheVariants as form
use Rattle.swift_syntax.proofs.Declarations.{leaf_name, leaf_tree}
use Rattle.swift_syntax.proofs.actor.is_plain.Goals as goal

pub returns-in-Name : goal.returns-in-Name
returns-in-Name c = λ y i j v s d. leaf_tree IsPlain form.Name leaf_name (λ e g. sym c.in-Name.is ∙ ap (λ x. x.form) (c.expr.ensures e (rw c.deref.ensures g))) (λ t. plain_name) d

pub returns-in_default : goal.returns-in_default
returns-in_default c = λ y i j v s d. plain_literal (c.is_literal.ensures y i j v s d)
