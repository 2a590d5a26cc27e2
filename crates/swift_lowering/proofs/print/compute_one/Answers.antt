use Rattle.swift_expressions.proofs.Grown.{on, same}
use Rattle.swift_lowering.proofs.print.compute_one.Goals as goal

pub returns-then-is_text-clause-grows : goal.returns-then-is_text-clause-grows
returns-then-is_text-clause-grows c = λ n. same (c.want_label.ensures.state n)

pub returns-else-is_text-clause-grows : goal.returns-else-is_text-clause-grows
returns-else-is_text-clause-grows c = λ n. on (same (c.want_label.ensures.state (c.printed.ensures.refused n))) (c.printed.ensures.grows n)
