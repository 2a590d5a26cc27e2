use Rattle.script_names.proofs.Prelude.{◌≡◌, [], drop, map, view_field, field_names, with_names}
use Rattle.script_names.proofs.directory.names_of.Given as goal

abbrev pub invariant-loop-field : goal.invariant-loop-field
invariant-loop-field l = with_names l.names (field_names (map view_field (drop l.field-index l.fields))) ≡ with_names [] (field_names (map view_field l.fields))
