use Rattle.script_compiler.proofs.ExecutorsMade.{both_kinds}
use Rattle.script_compiler.proofs.executors.compile_executors.Goals as goal

pub returns-clause-view : goal.returns-clause-view
returns-clause-view c = both_kinds c.args.plan.now _ c.in_ok-all.all.items c.add_own.new.all.items _ _ c.in_ok-all.ensures.view c.in_ok-add_own.ensures.view
