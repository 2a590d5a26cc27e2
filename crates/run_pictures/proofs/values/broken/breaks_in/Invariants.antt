use Rattle.run_pictures.proofs.Prelude.{◌≡◌, drop, breaks_in, values_views}
use Rattle.run_pictures.proofs.values.broken.breaks_in.Given as goal

abbrev pub invariant-loop-place : goal.invariant-loop-place
invariant-loop-place l = breaks_in l.task.0 l.number (drop l.place l.journal) (values_views (drop l.place l.values)) ≡ breaks_in l.task.0 l.number l.journal (values_views l.values)
