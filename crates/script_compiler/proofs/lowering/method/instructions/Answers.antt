use Rattle.script_compiler.proofs.Prelude.{map, ap, subst, arith, view_stmt, block_tree, FollowsCode, count, code_at, Code}
use Rattle.script_compiler.proofs.Room.{block_takes}
use Rattle.script_compiler.proofs.lowering.method.instructions.Goals as goal

pub instructions_of-requires : goal.instructions_of-requires
instructions_of-requires c =
    omega (arith, c.requires.room, ap count c.in_ok-statements.ensures.code, block_takes c.args.plan.now c.args.scope.now (block_tree (map view_stmt c.args.body.now)))

pub returns-clause-code : goal.returns-clause-code
returns-clause-code c = subst (λ (code : Code). FollowsCode c.in_ok-instructions_of.field-0.items code (code_at code)) c.in_ok-statements.ensures.code c.in_ok-instructions_of.ensures
