use Rattle.std.proofs.Common.{◌≡◌, w64, to_z, of_z, rules, ◌∙◌}
use Rattle.swift_expressions.specs.Lowered as lowered
use Rattle.swift_expressions.proofs.Stepped.{given_from, given_kind}
use Rattle.swift_expressions.proofs.Waited.{constant_given}
use Rattle.swift_expressions.proofs.name.global_name.Goals as goal

pub returns-in-Some-clause-means : goal.returns-in-Some-clause-means
returns-in-Some-clause-means c = λ free n2.
    let n1 = c.with_kind.ensures.refused n2 in
    lowered.a_field c.in-Some.field free c.in-Some.ensures.found (given_kind (c.field_kind-kind.ensures.kind n1) (given_from (c.field_kind-kind.ensures.state n1) (c.with_kind.ensures.gives n2)))

pub returns-in-Some-constant_named-clause-means : goal.returns-in-Some-constant_named-clause-means
returns-in-Some-constant_named-clause-means c = λ free n3.
    let n2 = c.with_kind-in-Some-constant_named.ensures.refused n3 in
    let n1 = c.literal-number.ensures.refused n2 in
    let same : to_z w64 (of_z w64 c.literal-number.result.0) ≡ c.literal-number.result.0 = search rules in
    lowered.a_constant c.in-Some-constant_named.place free c.in_default.ensures.none c.in-Some-constant_named.ensures.found
    (constant_given c.in-Some-constant_named.place (c.refuse_hidden.ensures.state n1) c.constant_literal-value.ensures (c.literal-number.ensures.state n2) (same ∙ c.literal-number.ensures.number n2) (c.literal-number.ensures.kind n2) (c.with_kind-in-Some-constant_named.ensures.gives n3))
