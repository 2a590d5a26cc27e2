use Rattle.std.proofs.Common.{◌∙◌}
use Rattle.swift_lowering.proofs.Stated.{defined_anew, defined_as_it_is}
use Rattle.swift_lowering.proofs.assignment.define.Goals as goal

pub returns-in-Some-clause-defines : goal.returns-in-Some-clause-defines
returns-in-Some-clause-defines c = λ n4.
    let n3 = c.declare.ensures.refused n4 in
    let n2 = c.named_value.ensures.refused n3 in
    let n1 = c.refuse_twice.ensures.refused n2 in
    defined_as_it_is (c.refuse_twice.ensures.state n2 ∙ c.want_value.ensures.state n1 ∙ c.want_type.ensures.state (c.want_value.ensures.refused n1)) (c.in-Some.ensures.named n3) (c.declare.ensures.binds n4)

pub returns-in-None-clause-defines : goal.returns-in-None-clause-defines
returns-in-None-clause-defines c = λ n6.
    let n5 = c.declare-in-None.ensures.refused n6 in
    let n4 = c.put.ensures.refused n5 in
    let n3 = c.variable-variable.ensures.refused n4 in
    let n2 = c.named_value.ensures.refused n3 in
    let n1 = c.refuse_twice.ensures.refused n2 in
    defined_anew (c.in-None.ensures.other n3 ∙ c.refuse_twice.ensures.state n2 ∙ c.want_value.ensures.state n1 ∙ c.want_type.ensures.state (c.want_value.ensures.refused n1)) (c.variable-variable.ensures.declared n4) c.variable-variable.ensures.place (c.put.ensures.state n5) (c.declare-in-None.ensures.binds n6)
