use Rattle.swift_syntax.proofs.expression.+is_numeral.Given as goal

abbrev pub decreases-is_numeral : goal.decreases-is_numeral
decreases-is_numeral l = l.depth
