use Rattle.script_compiler.proofs.Prelude.{◌++◌, ◌∙◌, List, map, sym, append-nil, at_drop_all, field_view}
use Rattle.script_compiler.specs.declared.compiled.CompiledField.{CompiledField}
use Rattle.script_compiler.proofs.start.starts.Goals as goal

pub returns : goal.returns
returns c =
    sym (append-nil (c.loop-field.row.items))
    ∙ sym (at_drop_all (λ (fs : List CompiledField). c.loop-field.row.items ++ map (λ f. f.start) (map field_view fs)) c.args.fields.now c.loop-field.field-index c.loop-field-test.false)
    ∙ c.loop-field.invariant
