use Rattle.script_parser.proofs.Prelude.{◌-◌, map, sym, ◌∙◌, err_from_is_err_and, NESTING, piece, view, operands_at, level_at, inside_at}
use Rattle.script_parser.proofs.Operands.{next_operand, operand_fails, operand_too_high}
use Rattle.script_parser.proofs.Levels.{not_found, first_level, level_with, level_without, first_fails, operands_fail}
use Rattle.script_parser.proofs.expression.+expression.Goals.{level-then-is_some+in_ok-next, level-else-is_some}
use Rattle.script_parser.proofs.expression.+expression.Goals as goal

pub operands-returns-in_err-right : goal.operands-returns-in_err-right
operands-returns-in_err-right t c =
    let p = err_from_is_err_and c.from_residual.result c.from_residual.ensures.1 in
    rw (p.1, p.2) (operand_fails (level_at c.args.atoms NESTING (inside_at c.args.atoms NESTING c.args.opens) (c.args.precedence - 1)) c.args.precedence c.in_err-right.field-0.0 c.args.most c.loop.counter (view c.loop.left.expr) (map piece c.loop.rest.now) c.in-Some.operator (map piece c.in-Some.following.now) _ c.loop-test.true (sym c.in-Some.ensures) c.in_err-right.ensures c.loop.invariant)

pub operands-returns-in_err-left : goal.operands-returns-in_err-left
operands-returns-in_err-left t c =
    let p = err_from_is_err_and c.from_residual-in_err-left.result c.from_residual-in_err-left.ensures.1 in
    rw (p.1, p.2) (operand_too_high (level_at c.args.atoms NESTING (inside_at c.args.atoms NESTING c.args.opens) (c.args.precedence - 1)) c.args.precedence c.in_err-left.field-0.0 c.args.most c.loop.counter (view c.loop.left.expr) (map piece c.loop.rest.now) c.in-Some.operator (map piece c.in-Some.following.now) (view c.in_ok-right.right.expr) (map piece c.in_ok-right.after.now) _ c.loop-test.true (sym c.in-Some.ensures) c.in_ok-right.ensures c.in_err-left.ensures c.loop.invariant)

pub operands-loop-preserved : goal.operands-loop-preserved
operands-loop-preserved t c =
    next_operand (level_at c.args.atoms NESTING (inside_at c.args.atoms NESTING c.args.opens) (c.args.precedence - 1)) c.args.precedence c.args.most c.loop.counter (view c.loop.left.expr) (map piece c.loop.rest.now) c.in-Some.operator (map piece c.in-Some.following.now) (view c.in_ok-right.right.expr) (view c.in_ok-left.left.expr) (map piece c.in_ok-right.after.now) (operands_at NESTING (level_at c.args.atoms NESTING (inside_at c.args.atoms NESTING c.args.opens) (c.args.precedence - 1)) c.args.precedence c.args.most (view c.args.first.expr) (map piece c.args.tokens.now)) c.loop-test.true (sym c.in-Some.ensures) c.in_ok-right.ensures c.in_ok-left.ensures c.loop.invariant

pub level-returns-in_err-left : goal.level-returns-in_err-left
level-returns-in_err-left t c =
    let p = err_from_is_err_and c.from_residual.result c.from_residual.ensures.1 in
    rw (p.1, p.2) (first_fails c.args.atoms (inside_at c.args.atoms NESTING c.args.opens) c.in_err-left.field-0.0 c.args.loosest (map piece c.args.tokens.now) c.in_err-left.ensures)

pub level-loop-tighter-init : goal.level-loop-tighter-init
level-loop-tighter-init t c = first_level c.args.atoms (inside_at c.args.atoms NESTING c.args.opens) (map piece c.args.tokens.now) _ c.in_ok-left.ensures

pub level-returns-in_err-next : goal.level-returns-in_err-next
level-returns-in_err-next t c =
    let p = err_from_is_err_and c.from_residual-in_err-next.result c.from_residual-in_err-next.ensures.1 in
    rw (p.1, p.2) (operands_fail c.args.atoms (inside_at c.args.atoms NESTING c.args.opens) c.in_err-next.field-0.0 c.loop-tighter.tighter c.args.loosest c.most_operators-most.result (map piece c.args.tokens.now) (view c.loop-tighter.left.expr) (map piece c.loop-tighter.rest.now) c.loop-tighter-test.true c.most_operators-most.ensures c.loop-tighter.invariant c.in_err-next.ensures)

pub level-loop-tighter-preserved : goal.level-loop-tighter-preserved
level-loop-tighter-preserved t c =
    let inside = inside_at c.args.atoms NESTING c.args.opens in
    let ts = map piece c.args.tokens.now in
    let left = view c.loop-tighter.left.expr in
    let rest = map piece c.loop-tighter.rest.now in
    elim c.if-is_some.branch [
      | level-then-is_some+in_ok-next w ↦ rw (w.left-is, w.rest-is) (level_with c.args.atoms inside c.loop-tighter.tighter w.most_operators-most.result ts left rest w.most_operators-most.ensures c.loop-tighter.invariant ∙ w.in_ok-next.ensures)
      | level-else-is_some w ↦ rw (w.left-is, w.rest-is) (level_without c.args.atoms inside c.loop-tighter.tighter ts left rest (not_found _ c.next_operator.result _ (sym c.is_some.ensures ∙ w.if-is_some.false) c.next_operator.ensures) c.loop-tighter.invariant)
    ]
