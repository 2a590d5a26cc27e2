use Rattle.script_compiler.proofs.Prelude.{◌≡◌, ◌++◌, [], drop, map, view_field, fields_error, past_fields, field_view}
use Rattle.script_compiler.proofs.lowering.actor.fields.Given as goal

abbrev pub invariant-loop-field : goal.invariant-loop-field
invariant-loop-field l = record {
  errors : fields_error l.seen l.at (map view_field (drop l.field-index l.fields)) ≡ fields_error [] l.initial.at (map view_field l.fields);
  after : past_fields (map view_field (drop l.field-index l.fields)) l.at ≡ past_fields (map view_field l.fields) l.initial.at;
  fields : map field_view l.compiled.items ++ map view_field (drop l.field-index l.fields) ≡ map view_field l.fields;
}
