use Rattle.run_pictures.proofs.Prelude.{◌≡◌, drop, rows_of, terms_of, first_false}
use Rattle.run_pictures.proofs.values.invariants.first_false.Given as goal

abbrev pub invariant-loop-place : goal.invariant-loop-place
invariant-loop-place l = first_false l.place (terms_of (drop l.place l.invariants)) (rows_of l.fields) ≡ first_false 0 (terms_of l.invariants) (rows_of l.fields)
