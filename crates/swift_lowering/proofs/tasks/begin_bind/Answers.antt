use Rattle.std.proofs.Common.{ap, ◌∙◌}
use Rattle.swift_expressions.specs.States.{put, state_of}
use Rattle.swift_expressions.specs.declared.code.Instruction.TheVariants as instruction
use Rattle.swift_lowering.proofs.tasks.begin_bind.Goals as goal

pub returns-clause-begins : goal.returns-clause-begins
returns-clause-begins c = λ n4.
    let n3 = c.put.ensures.refused n4 in
    let n2 = c.want.ensures.refused n3 in
    let n1 = c.local_kind-kind.ensures.refused n2 in
    record {
      u = state_of c.expression-found.new.lowering;
      found = c.expression-found.result;
      lowers = c.expression-found.ensures.lowers (c.refuse_hidden.ensures.refused n1);
      local = c.in-Some.local;
      first = c.in-Some.ensures.found;
      state = c.put.ensures.state n4 ∙ ap (put (instruction.Bind c.in-Some.local c.expression-found.result.value)) (c.want.ensures.state n3 ∙ c.local_kind-kind.ensures.state n2 ∙ c.refuse_hidden.ensures.state n1);
    }
