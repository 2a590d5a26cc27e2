use Rattle.std.proofs.Common.{sym}
use Rattle.swift_expressions.specs.Lowered as lowered
use Rattle.swift_expressions.proofs.Stepped.{kept_where}
use Rattle.swift_expressions.proofs.typed.keep_if.Goals as goal

pub returns-then-may_change-clause-keeps : goal.returns-then-may_change-clause-keeps
returns-then-may_change-clause-keeps c = λ none. kept_where (sym c.if-may_change.true) (lowered.kept (c.keep.ensures.keeps none))

pub returns-else-may_change-clause-keeps : goal.returns-else-may_change-clause-keeps
returns-else-may_change-clause-keeps c = λ none. kept_where (sym c.if-may_change.false) lowered.as_it_is
