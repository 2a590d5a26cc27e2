use Rattle.std.proofs.Common.{ap, ◌∙◌}
use Rattle.swift_expressions.specs.Lowered as lowered
use Rattle.swift_expressions.specs.Lowered.{local_kind}
use Rattle.swift_expressions.proofs.Scoped.{not_true}
use Rattle.swift_expressions.proofs.Stepped.{given_from, given_kind}
use Rattle.swift_expressions.proofs.Waited.{reads_from}
use Rattle.swift_expressions.proofs.name.member.Goals as goal

pub returns-then-is_expectation-clause-names : goal.returns-then-is_expectation-clause-names
returns-then-is_expectation-clause-names c = λ n. c.field_at_end.ensures.names c.if-is_expectation.true n

pub returns-in-Some-clause-names : goal.returns-in-Some-clause-names
returns-in-Some-clause-names c = λ n. c.task_value.ensures.names c.args.of c.if-is_expectation.false c.in-Some.ensures.found n

pub returns-then-spells-clause-names : goal.returns-then-spells-clause-names
returns-then-spells-clause-names c = λ n. c.task_member.ensures.names c.args.of c.if-is_expectation.false c.in_default.ensures.none (c.spells.ensures.0 c.if-spells.true) n

pub returns-in-Some-local_named-clause-names : goal.returns-in-Some-local_named-clause-names
returns-in-Some-local_named-clause-names c = λ n3.
    let n2 = c.with_kind.ensures.refused n3 in
    let n1 = c.local_kind-kind.ensures.refused n2 in
    let same = c.refuse_hidden.ensures.state n1 in
    lowered.local c.if-is_expectation.false (record { free = c.in_default.ensures.none; other = λ x. not_true c.if-spells.false (c.spells.ensures.1 x) }) c.in-Some-local_named.ensures.found
    (given_kind (c.local_kind-kind.ensures.kind n2 ∙ ap (λ x. local_kind x c.in-Some-local_named.local) same) (given_from (c.local_kind-kind.ensures.state n2 ∙ same) (c.with_kind.ensures.gives n3)))

pub returns-in-Some-instance_named-clause-names : goal.returns-in-Some-instance_named-clause-names
returns-in-Some-instance_named-clause-names c = λ n.
    lowered.another c.if-is_expectation.false (record { free = c.in_default.ensures.none; other = λ x. not_true c.if-spells.false (c.spells.ensures.1 x) }) c.in_default-local_named.ensures.none c.in-Some-instance_named.ensures.found
    (reads_from (c.refuse_hidden-in-Some-instance_named.ensures.state (c.getter.ensures.refused n)) (c.getter.ensures.reads n))
