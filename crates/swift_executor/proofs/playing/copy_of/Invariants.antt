use Rattle.swift_executor.proofs.Prelude.{◌≡◌, take, rows_of}
use Rattle.swift_executor.proofs.playing.copy_of.Given as goal

abbrev pub invariant-loop-row : goal.invariant-loop-row
invariant-loop-row l = rows_of l.rows.items ≡ rows_of (take l.row-index l.from)
