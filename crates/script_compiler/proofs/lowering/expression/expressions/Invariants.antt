use Rattle.script_compiler.proofs.Prelude.{◌≡◌, ◌++◌, drop, map, view, expressions_error, past_all, terms_of, lowered}
use Rattle.script_compiler.proofs.lowering.expression.expressions.Given as goal

abbrev pub invariant-loop-expr : goal.invariant-loop-expr
invariant-loop-expr l = record {
  errors : expressions_error l.scope l.at (map view (drop l.expr-index l.exprs)) ≡ expressions_error l.scope l.initial.at (map view l.exprs);
  after : past_all (map view (drop l.expr-index l.exprs)) l.at ≡ past_all (map view l.exprs) l.initial.at;
  formulas : terms_of l.formulas.items ++ map (lowered l.plan l.scope) (map view (drop l.expr-index l.exprs)) ≡ map (lowered l.plan l.scope) (map view l.exprs);
}
