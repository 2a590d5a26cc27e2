use Rattle.script_compiler.proofs.Prelude.{◌++◌, ◌∙◌, List, sym, append-nil, at_drop_all, Instruction, edges_made, waits_made, made_along}
use Rattle.script_compiler.proofs.waits.add_method.Goals as goal

pub returns-clause-edges : goal.returns-clause-edges
returns-clause-edges c =
    sym (append-nil (c.loop-instruction.named.edges.items))
    ∙ sym (at_drop_all (λ (is : List Instruction). c.loop-instruction.named.edges.items ++ made_along (edges_made c.args.method) is) c.args.instructions.now c.loop-instruction.instruction-index c.loop-instruction-test.false)
    ∙ c.loop-instruction.invariant.edges

pub returns-clause-waits : goal.returns-clause-waits
returns-clause-waits c =
    sym (append-nil (c.loop-instruction.named.waits.items))
    ∙ sym (at_drop_all (λ (is : List Instruction). c.loop-instruction.named.waits.items ++ made_along (waits_made c.args.method) is) c.args.instructions.now c.loop-instruction.instruction-index c.loop-instruction-test.false)
    ∙ c.loop-instruction.invariant.waits
