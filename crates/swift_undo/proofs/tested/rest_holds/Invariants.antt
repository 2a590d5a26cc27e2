use Rattle.swift_undo.proofs.Prelude.{◌≡◌, ◌-◌, drop, length, rows_of, terms_of, all_hold}
use Rattle.swift_undo.proofs.tested.rest_holds.Given as goal

abbrev pub invariant-loop-place : goal.invariant-loop-place
invariant-loop-place l = all_hold (terms_of (drop l.place l.invariants)) (rows_of l.fields) ≡ all_hold (terms_of (drop l.from l.invariants)) (rows_of l.fields)

abbrev pub decreases-loop-place : goal.decreases-loop-place
decreases-loop-place l = length l.invariants - l.place
