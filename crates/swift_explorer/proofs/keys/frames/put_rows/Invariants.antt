use Rattle.swift_explorer.proofs.Prelude.{◌≡◌, ◌++◌, take, rows_of, some_numbers, values_numbers}
use Rattle.swift_explorer.proofs.keys.frames.put_rows.Given as goal

abbrev pub invariant-loop-row : goal.invariant-loop-row
invariant-loop-row l = l.key.items ≡ l.initial.key.items ++ some_numbers values_numbers (take l.row-index (rows_of l.rows))
