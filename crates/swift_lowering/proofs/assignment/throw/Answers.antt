use Rattle.std.proofs.Common.{◌≡◌, w64, to_z, of_z, ap, rules, ◌∙◌}
use Rattle.swift_expressions.specs.States.{put, state_of, with_value}
use Rattle.swift_expressions.specs.declared.code.Instruction.TheVariants as instruction
use Rattle.swift_expressions.specs.declared.code.Value.TheVariants as value
use Rattle.swift_lowering.proofs.Stated.{thrown_from}
use Rattle.swift_lowering.proofs.assignment.throw.Goals as goal

pub returns-clause-state : goal.returns-clause-state
returns-clause-state c = λ n3.
    let n2 = c.put.ensures.refused n3 in
    let n1 = c.number-value.ensures.refused n2 in
    let n0 = c.thrown-number.ensures.refused n1 in
    let same : to_z w64 (of_z w64 c.thrown-number.result) ≡ c.thrown-number.result = search rules in
    thrown_from c.args.place (c.refuse_thrown.ensures.state n0) (c.thrown-number.ensures.thrown n1) (c.thrown-number.ensures.state n1) c.number-value.ensures.place (c.put.ensures.state n3 ∙ ap (put (instruction.Throw c.number-value.result)) (c.number-value.ensures.state n2 ∙ ap (λ z. with_value (value.Number z) (state_of c.thrown-number.new.lowering)) same))
