use Rattle.script_compiler.proofs.Prelude.{◌≡◌, ℕ, ◌+◌, suc, List, Option, drop, map, sym, ap, ◌∙◌, arith, at_drop_all, Expr, view, earlier, expressions_error, past, past_all, all_grow, from_next, lowered}
use Rattle.script_names.specs.declared.error.NameError.{NameError}
use Rattle.script_compiler.proofs.Steps.{front}
use Rattle.script_compiler.proofs.Terms.{formula_more}
use Rattle.script_compiler.proofs.lowering.expression.expressions.Goals as goal

pub expression-requires : goal.expression-requires
expression-requires c =
    let x = c.expr-item.result in
    let xs = c.args.exprs.now in
    let i = c.loop-expr.expr-index in
    let here = from_next (λ (ys : List Expr). past_all (map view ys) c.loop-expr.at ≡ past_all (map view xs) c.args.at.now) xs i x c.loop-expr-test.true c.expr-item.is c.loop-expr.invariant.after in
    omega (arith, c.requires, here, all_grow (map view (drop (suc i) xs)) (past (view x) c.loop-expr.at))

pub loop-expr-preserved : goal.loop-expr-preserved
loop-expr-preserved c =
    let s = c.args.scope.now in
    let x = c.expr-item.result in
    let xs = c.args.exprs.now in
    let i = c.loop-expr.expr-index in
    let at = c.loop-expr.at in
    let rest = map view (drop (i + 1) xs) in
    let left = front xs i x c.loop-expr-test.true c.expr-item.is in
    let before = c.loop-expr.invariant in
    let made = c.in_ok-expression.ensures in
    record {
      errors =
          ap (λ (n : ℕ). expressions_error s n rest) made.after
          ∙ sym (ap (λ (o : Option NameError). earlier o (expressions_error s (past (view x) at) rest)) made.finds)
          ∙ sym (ap (λ (es : List Expr). expressions_error s at (map view es)) left)
          ∙ before.errors;
      after = ap (past_all rest) made.after ∙ sym (ap (λ (es : List Expr). past_all (map view es) at) left) ∙ before.after;
      formulas =
          formula_more (lowered c.args.plan.now s) c.loop-expr.formulas.items c.push.new.self.items c.in_ok-expression.field-0 xs i x
          c.loop-expr-test.true c.expr-item.is made.formula c.in_ok-push.ensures.items
          ∙ before.formulas;
    }

pub returns-clause-finds : goal.returns-clause-finds
returns-clause-finds c =
    sym c.loop-expr.invariant.errors ∙ at_drop_all (λ (es : List Expr). expressions_error c.args.scope.now c.loop-expr.at (map view es)) c.args.exprs.now c.loop-expr.expr-index (omega (arith, c.loop-expr-test.false))

pub returns-clause-after : goal.returns-clause-after
returns-clause-after c =
    sym (at_drop_all (λ (es : List Expr). past_all (map view es) c.loop-expr.at) c.args.exprs.now c.loop-expr.expr-index (omega (arith, c.loop-expr-test.false))) ∙ c.loop-expr.invariant.after
