use Rattle.std.proofs.Common.{◌≡◌, drop}
use Rattle.explorer_progress.specs.Rounds.{is_told}
use Rattle.explorer_progress.proofs.hint.is_among.Given as goal

abbrev pub invariant-loop-one : goal.invariant-loop-one
invariant-loop-one l = is_told l.task.0 (drop l.one-index l.tasks) ≡ is_told l.task.0 l.tasks
