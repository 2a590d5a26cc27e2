use Rattle.swift_explorer.proofs.Prelude.{◌≡◌, map, range_with_len, rows_of, executor_start}
use Rattle.swift_explorer.proofs.history.first_fields.Given as goal

abbrev pub invariant-loop-place : goal.invariant-loop-place
invariant-loop-place l = map (λ rows. rows_of rows.items) l.fields.items ≡ map (executor_start l.script) (range_with_len 0 l.place)
