use Rattle.swift_expressions.specs.Lowered as lowered
use Rattle.swift_expressions.proofs.Stepped.{given_from, given_kind}
use Rattle.swift_expressions.proofs.name.own_field.Goals as goal

pub returns-in-Some-clause-names : goal.returns-in-Some-clause-names
returns-in-Some-clause-names c = λ n2.
    let n1 = c.with_kind.ensures.refused n2 in
    lowered.own_field c.in-Some.ensures.found (given_kind (c.field_kind-kind.ensures.kind n1) (given_from (c.field_kind-kind.ensures.state n1) (c.with_kind.ensures.gives n2)))
