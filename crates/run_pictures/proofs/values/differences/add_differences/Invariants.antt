use Rattle.run_pictures.proofs.Prelude.{◌≡◌, ◌++◌, drop, rows_of, differences}
use Rattle.run_pictures.proofs.values.differences.add_differences.Given as goal

abbrev pub invariant-loop-actor : goal.invariant-loop-actor
invariant-loop-actor l = l.changes.items ++ differences l.actor (drop l.actor (rows_of l.before)) (drop l.actor (rows_of l.after)) ≡ l.initial.changes.items ++ differences 0 (rows_of l.before) (rows_of l.after)
