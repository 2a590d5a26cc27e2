use Rattle.std.proofs.Common.{ap, ◌∙◌}
use Rattle.swift_types.specs.declared.operator.Operator.TheVariants as operators
use Rattle.swift_expressions.specs.Lowered.{counted}
use Rattle.swift_expressions.specs.States.{put, state_of}
use Rattle.swift_expressions.specs.declared.code.Instruction.TheVariants as instruction
use Rattle.swift_expressions.specs.declared.code.Target.TheVariants.{Declare}
use Rattle.swift_expressions.specs.declared.code.TheConstants.{NONE}
use Rattle.swift_expressions.specs.declared.code.Wait.TheVariants as waiting
use Rattle.swift_lowering.proofs.tasks.next_result.Goals as goal

pub returns-clause-next : goal.returns-clause-next
returns-clause-next c = λ n3.
    let n2 = c.count_down.ensures.refused n3 in
    let n1 = c.put.ensures.refused n2 in
    record {
      u = state_of c.variable-variable.new.self;
      declared = c.variable-variable.ensures.declared n1;
      state = c.count_down.ensures.state n3 ∙ ap (counted operators.Minus c.args.found.count) (c.put.ensures.state n2 ∙ ap (λ x. put (instruction.Wait (Declare x) (waiting.Next c.args.found.variable) NONE) (state_of c.variable-variable.new.self)) c.variable-variable.ensures.place);
    }
