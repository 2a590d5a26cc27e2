use Rattle.expectations.proofs.Prelude.{◌≡◌, map, rows_of, first_rows}
use Rattle.expectations.proofs.judging.rows.Given as goal

abbrev pub invariant-loop-actor : goal.invariant-loop-actor
invariant-loop-actor l = rows_of l.all.items ≡ first_rows l.script (map (λ rows. rows_of rows.items) l.fields) l.actor
