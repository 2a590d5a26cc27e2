use Rattle.std.proofs.Common.{false, sym, ap, ◌∙◌}
use Rattle.swift_expressions.specs.States.{covered, put, state_of}
use Rattle.swift_expressions.specs.declared.code.Instruction.TheVariants as instruction
use Rattle.swift_expressions.proofs.Stepped.{lowered_from}
use Rattle.swift_lowering.specs.Statements.{as_set}
use Rattle.swift_lowering.proofs.print.require.Goals as goal

pub returns-clause-required : goal.returns-clause-required
returns-clause-required c = λ n3.
    let n2 = c.put.ensures.refused n3 in
    let n1 = c.want.ensures.refused n2 in
    let same = c.want_message.ensures.state (c.expression-found.ensures.refused n1) in
    record {
      argument = c.in-Some.argument;
      there = sym c.in-Some.ensures;
      u = state_of c.expression-found.new.lowering;
      found = c.expression-found.result;
      lowers = lowered_from (ap (covered false) same) (c.expression-found.ensures.lowers n1);
      line = c.line-line.result;
      state = c.put.ensures.state n3 ∙ ap (put (instruction.Require c.expression-found.result.value c.line-line.result)) (c.want.ensures.state n2 ∙ ap (λ x. as_set x (state_of c.expression-found.new.lowering)) same);
    }
