use Rattle.swift_expressions.specs.Lowered as lowered
use Rattle.swift_expressions.proofs.Stepped.{given_from, given_kind}
use Rattle.swift_expressions.proofs.name.field_at_end.Goals as goal

pub returns-in-Some-field_of-clause-names : goal.returns-in-Some-field_of-clause-names
returns-in-Some-field_of-clause-names c = λ ends n2.
    let n1 = c.with_kind.ensures.refused n2 in
    lowered.at_end ends c.in-Some.ensures.found c.in-Some-field_of.ensures.found (given_kind (c.field_kind-kind.ensures.kind n1) (given_from (c.field_kind-kind.ensures.state n1) (c.with_kind.ensures.gives n2)))
