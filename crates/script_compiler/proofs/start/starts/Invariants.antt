use Rattle.script_compiler.proofs.Prelude.{◌≡◌, ◌++◌, map, drop, field_view}
use Rattle.script_compiler.proofs.start.starts.Given as goal

abbrev pub invariant-loop-field : goal.invariant-loop-field
invariant-loop-field l = l.row.items ++ map (λ f. f.start) (map field_view (drop l.field-index l.fields)) ≡ map (λ f. f.start) (map field_view l.fields)
