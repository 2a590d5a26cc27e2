use Rattle.swift_undo.proofs.Prelude.{ℕ, take, Contains, rows_of, terms_of, HoldsThere}
use Rattle.swift_undo.proofs.tested.each_holds.Given as goal

abbrev pub invariant-loop-place : goal.invariant-loop-place
invariant-loop-place l = (p : ℕ) → Contains (take l.place-index l.places) p → HoldsThere (terms_of l.invariants) p (rows_of l.fields)
