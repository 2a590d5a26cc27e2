use Rattle.std.proofs.Common.{◌≡◌, ◌++◌, drop}
use Rattle.explorer_progress.specs.HintText.{tasks_text}
use Rattle.explorer_progress.proofs.text.put_tasks.Given as goal

abbrev pub invariant-loop-place : goal.invariant-loop-place
invariant-loop-place l =
    l.out.items ++ tasks_text l.script l.endings l.place l.many (drop l.place l.tasks) ≡ l.initial.out.items ++ tasks_text l.script l.endings 0 l.many l.tasks
