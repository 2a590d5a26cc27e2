use Rattle.swift_undo.proofs.Prelude.{◌≡◌, ◌++◌, drop, terms_of, rows_read}
use Rattle.swift_undo.proofs.rows.read_rows.Given as goal

abbrev pub invariant-loop-invariant : goal.invariant-loop-invariant
invariant-loop-invariant l = l.rows.items ++ rows_read (terms_of (drop l.invariant-index l.invariants)) ≡ rows_read (terms_of l.invariants)
