use Rattle.swift_interpreter.proofs.Prelude.{◌≡◌, length, rows_of, restored}
use Rattle.swift_interpreter.proofs.saved.SavedRows.put_back.Given as goal

abbrev pub invariant-loop-self : goal.invariant-loop-self
invariant-loop-self l = restored l.self (rows_of l.fields) ≡ restored l.fn.self (rows_of l.fn.fields)

abbrev pub decreases-loop-self : goal.decreases-loop-self
decreases-loop-self l = length l.self
