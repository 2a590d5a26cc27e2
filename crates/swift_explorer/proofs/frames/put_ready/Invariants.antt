use Rattle.swift_explorer.proofs.Prelude.{◌≡◌, ◌++◌, map, take, option_map, some_numbers, option_numbers, ready_numbers, ready_view}
use Rattle.swift_explorer.proofs.frames.put_ready.Given as goal

abbrev pub invariant-loop-task : goal.invariant-loop-task
invariant-loop-task l = l.key.items ≡ l.initial.key.items ++ some_numbers (option_numbers ready_numbers) (take l.task-index (map (option_map ready_view) l.tasks))
