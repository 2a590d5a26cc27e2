use Rattle.run_pictures.proofs.Prelude.{◌≡◌, ◌++◌, drop, row_differences}
use Rattle.run_pictures.proofs.values.differences.add_row.Given as goal

abbrev pub invariant-loop-field : goal.invariant-loop-field
invariant-loop-field l = l.changes.items ++ row_differences l.actor l.field (drop l.field l.before) (drop l.field l.after) ≡ l.initial.changes.items ++ row_differences l.actor 0 l.before l.after
