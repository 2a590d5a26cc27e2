use Rattle.std.proofs.Common.{sym, ap, ◌∙◌, inl, inr}
use Rattle.swift_syntax.specs.Declarations.{literal_number, literal_truth}
use Rattle.swift_syntax.specs.declared.tree.ExprForm.TheVariants as form
use Rattle.swift_syntax.proofs.Declarations.{below_literal, literal_leaf, leaf_number, leaf_truth}
use Rattle.swift_syntax.proofs.actor.is_literal.Goals as goal

pub returns-in-Number : goal.returns-in-Number
returns-in-Number c = λ y i j v s d. elim c.in-Number.is [
  | inl n ↦ literal_leaf (form.Number n.0) leaf_number (λ e g. sym n.1 ∙ ap (λ x. x.form) (c.expr.ensures e (rw c.deref.ensures g))) (λ t. literal_number) d
  | inr b ↦ literal_leaf (form.Truth b.0) leaf_truth (λ e g. sym b.1 ∙ ap (λ x. x.form) (c.expr.ensures e (rw c.deref.ensures g))) (λ t. literal_truth) d
]

pub returns-in-Number-matches : goal.returns-in-Number-matches
returns-in-Number-matches c = λ y i j v s d. below_literal {q = c.in-Negate.inner} {n = c.in-Number-matches.field-0} (λ e g. sym c.in-Negate.is ∙ ap (λ x. x.form) (c.expr.ensures e (rw c.deref.ensures g))) (λ e g. sym c.in-Number-matches.is ∙ ap (λ x. x.form) (c.expr-in-Negate.ensures e (rw c.deref-in-Negate.ensures g))) s d
