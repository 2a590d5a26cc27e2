use Rattle.swift_steps.proofs.Prelude.{◌≡◌, map, take, rows_of}
use Rattle.swift_steps.proofs.fields.copy_all_fields.Given as goal

abbrev pub invariant-loop-rows : goal.invariant-loop-rows
invariant-loop-rows l = map (λ rows. rows_of rows.items) l.copy.items ≡ map (λ rows. rows_of rows.items) (take l.rows-index l.all)
