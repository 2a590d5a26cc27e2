use Rattle.script_names.proofs.Prelude.{map, sym, ◌∙◌, arith, at_drop_all, view_field, field_names, with_names}
use Rattle.script_names.proofs.directory.names_of.Goals as goal

pub returns : goal.returns
returns c =
    sym (at_drop_all (λ fs. with_names c.loop-field.names (field_names (map view_field fs))) c.args.fields.now c.loop-field.field-index (omega (arith, c.loop-field-test.false))) ∙ c.loop-field.invariant
