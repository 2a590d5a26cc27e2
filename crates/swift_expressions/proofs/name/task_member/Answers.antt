use Rattle.swift_expressions.specs.Lowered as lowered
use Rattle.swift_expressions.proofs.name.task_member.Goals as goal

pub returns-then-spells-clause-names : goal.returns-then-spells-clause-names
returns-then-spells-clause-names c = λ of turn free is n. lowered.cancelled turn free is (c.spells.ensures.0 c.if-spells.true) (c.with_kind.ensures.gives n)

pub returns-then-spells-2-clause-names : goal.returns-then-spells-2-clause-names
returns-then-spells-2-clause-names c = λ of turn free is n. lowered.urgency turn free is (c.spells-2.ensures.0 c.if-spells-2.true) (c.with_kind-then-spells-2.ensures.gives n)
