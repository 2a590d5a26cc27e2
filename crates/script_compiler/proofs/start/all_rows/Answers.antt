use Rattle.script_compiler.proofs.Prelude.{◌++◌, ◌∙◌, List, map, sym, append-nil, at_drop_all, CompiledExecutor, actor_view, executor_view, rows_in, all_rows_of}
use Rattle.script_compiler.proofs.start.all_rows.Goals as goal

pub returns : goal.returns
returns c =
    sym (append-nil (all_rows_of c.loop-executor.all.items))
    ∙ sym (at_drop_all (λ (xs : List CompiledExecutor). all_rows_of c.loop-executor.all.items ++ rows_in (map executor_view xs) (map actor_view c.args.actors.now)) c.args.executors.now c.loop-executor.executor-index c.loop-executor-test.false)
    ∙ c.loop-executor.invariant
