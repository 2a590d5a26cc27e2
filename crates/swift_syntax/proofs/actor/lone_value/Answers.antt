use Rattle.std.proofs.Common.{◌≡◌, ◌∙◌, Some, ap, arith, subst}
use Rattle.std.specs.List.{slice_get}
use Rattle.swift_syntax.specs.Declarations.{lone_let_go, lone_returned_value}
use Rattle.swift_syntax.specs.declared.tree.StmtForm.TheVariants as form
use Rattle.swift_syntax.specs.declared.tree.Tree.{Tree}
use Rattle.swift_syntax.proofs.actor.lone_value.Goals as goal

pub returns-in-Nothing : goal.returns-in-Nothing
returns-in-Nothing c = λ n.
    let there = subst (λ (t : Tree). slice_get t.stmts.items c.args.first ≡ Some c.in-Some.stmt) c.deref.ensures c.in-Some.ensures.0 in
    (c.in-Some.ensures.1, lone_let_go there (c.in-Value.is ∙ ap (λ x. form.Value x c.in-Value.value) c.in-Nothing.is) (omega (arith, c.if-stmt-ne0.false)))

pub returns-in-Return : goal.returns-in-Return
returns-in-Return c = λ n.
    let there = subst (λ (t : Tree). slice_get t.stmts.items c.args.first ≡ Some c.in-Some.stmt) c.deref.ensures c.in-Some.ensures.0 in
    (c.in-Some.ensures.1, lone_returned_value there (c.in-Value.is ∙ ap (λ x. form.Value x c.in-Value.value) c.in-Return.is) (omega (arith, c.if-stmt-ne0.false)))
