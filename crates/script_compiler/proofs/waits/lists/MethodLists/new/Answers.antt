use Rattle.script_compiler.proofs.Prelude.{rules}
use Rattle.script_compiler.proofs.Chains.{empty}
use Rattle.script_compiler.proofs.waits.lists.MethodLists.new.Goals as goal

pub returns-clause-empty : goal.returns-clause-empty
returns-clause-empty c = empty c.args.count _ (c.in_ok-vec.ensures.items_if_clones_equal (λ y h. search rules)) c.new.ensures.items
