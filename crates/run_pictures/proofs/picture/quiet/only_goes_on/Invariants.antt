use Rattle.run_pictures.proofs.Prelude.{◌≡◌, drop, only_goes_on}
use Rattle.run_pictures.proofs.picture.quiet.only_goes_on.Given as goal

abbrev pub invariant-loop-place : goal.invariant-loop-place
invariant-loop-place l = only_goes_on l.task.0 (drop l.place l.log.events) ≡ only_goes_on l.task.0 (drop l.from l.log.events)
