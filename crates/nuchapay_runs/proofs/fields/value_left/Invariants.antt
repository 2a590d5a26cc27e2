use Rattle.nuchapay_runs.proofs.Prelude.{◌≡◌, drop, rows_of, value_left}
use Rattle.nuchapay_runs.proofs.fields.value_left.Given as goal

abbrev pub invariant-loop-change : goal.invariant-loop-change
invariant-loop-change l = value_left (drop l.change-index l.changes) (rows_of l.before) l.place ≡ value_left l.changes (rows_of l.before) l.place
