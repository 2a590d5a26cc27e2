use Rattle.run_pictures.proofs.Prelude.{◌≡◌, drop, breaks_at}
use Rattle.run_pictures.proofs.values.broken.breaks_invariant.Given as goal

abbrev pub invariant-loop-executor : goal.invariant-loop-executor
invariant-loop-executor l = breaks_at l.script l.task.0 l.number (drop l.executor l.report.checkpoints.items) (drop l.executor l.report.journals.items) ≡ breaks_at l.script l.task.0 l.number l.report.checkpoints.items l.report.journals.items
