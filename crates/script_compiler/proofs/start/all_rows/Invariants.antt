use Rattle.script_compiler.proofs.Prelude.{◌≡◌, ◌++◌, map, drop, actor_view, executor_view, rows_in, all_rows_of}
use Rattle.script_compiler.proofs.start.all_rows.Given as goal

abbrev pub invariant-loop-executor : goal.invariant-loop-executor
invariant-loop-executor l = all_rows_of l.all.items ++ rows_in (map executor_view (drop l.executor-index l.executors)) (map actor_view l.actors) ≡ rows_in (map executor_view l.executors) (map actor_view l.actors)
