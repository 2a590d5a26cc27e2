use Rattle.script_parser.proofs.Prelude.{◌≡◌, ◌-◌, ◌+◌, ◌*◌, Ok, map, NESTING, piece, view, operands_at, level_at, inside_at}
use Rattle.script_parser.proofs.expression.+expression.Given as goal

abbrev pub decreases-inside : goal.decreases-inside
decreases-inside l = l.opens * 4000

abbrev pub decreases-unary : goal.decreases-unary
decreases-unary l = l.opens * 4000 + 1 + l.prefixes

abbrev pub decreases-level : goal.decreases-level
decreases-level l = l.opens * 4000 + (NESTING + 1) + l.loosest * 40

abbrev pub decreases-operands : goal.decreases-operands
decreases-operands l = l.opens * 4000 + (NESTING + 2) + (l.precedence - 1) * 40

abbrev pub invariant-operands-loop : goal.invariant-operands-loop
invariant-operands-loop l = operands_at NESTING (level_at l.atoms NESTING (inside_at l.atoms NESTING l.opens) (l.precedence - 1)) l.precedence (l.most - l.counter) (view l.left.expr) (map piece l.rest) ≡ operands_at NESTING (level_at l.atoms NESTING (inside_at l.atoms NESTING l.opens) (l.precedence - 1)) l.precedence l.most (view l.fn.first.expr) (map piece l.tokens)

abbrev pub invariant-level-loop-tighter : goal.invariant-level-loop-tighter
invariant-level-loop-tighter l = level_at l.atoms NESTING (inside_at l.atoms NESTING l.opens) l.tighter (map piece l.tokens) ≡ Ok (view l.left.expr, map piece l.rest)
