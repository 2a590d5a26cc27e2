use Rattle.swift_explorer.proofs.Prelude.{◌≡◌, ◌++◌, map, take, rows_of, some_numbers, rows_numbers}
use Rattle.swift_explorer.proofs.keys.frames.put_fields.Given as goal

abbrev pub invariant-loop-rows : goal.invariant-loop-rows
invariant-loop-rows l = l.key.items ≡ l.initial.key.items ++ some_numbers rows_numbers (take l.rows-index (map (λ rows. rows_of rows.items) l.fields))
