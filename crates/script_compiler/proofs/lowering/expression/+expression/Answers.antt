use Rattle.script_compiler.proofs.Prelude.{ap, arith, rules, Expr, view, past, grows}
use Rattle.script_grammar.specs.declared.expression.Expr.{the_lemmas}
use Rattle.script_compiler.proofs.lowering.expression.+expression.Goals as goal

pub expression-requires-in-Binary : goal.expression-requires-in-Binary
expression-requires-in-Binary t c =
    let whole = ap (λ (e : Expr). past (view e) c.args.at.now) c.in-Binary.is in
    let left = ap (λ (e : Expr). past (view e) c.args.at.now) c.deref-in-Binary.ensures in
    (search (rules, the_lemmas), omega (arith, c.requires, whole, left, grows (view c.in-Binary.right.value) (past (view c.in-Binary.left.value) c.args.at.now)))
