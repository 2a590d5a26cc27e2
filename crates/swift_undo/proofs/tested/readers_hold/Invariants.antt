use Rattle.swift_undo.proofs.Prelude.{take, rows_of, terms_of, ReadersHold}
use Rattle.swift_undo.proofs.tested.readers_hold.Given as goal

abbrev pub invariant-loop-place : goal.invariant-loop-place
invariant-loop-place l = ReadersHold (terms_of l.invariants) l.rows (take l.place l.saved) (rows_of l.fields)
