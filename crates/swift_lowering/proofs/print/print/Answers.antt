use Rattle.swift_expressions.proofs.Grown.{on}
use Rattle.swift_lowering.proofs.print.print.Goals as goal

pub returns-then-is_main-clause-grows : goal.returns-then-is_main-clause-grows
returns-then-is_main-clause-grows c = λ n. on (c.compute-values.ensures.grows (c.print_values.ensures.refused n)) (c.print_values.ensures.grows n)
