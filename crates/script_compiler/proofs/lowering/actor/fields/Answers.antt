use Rattle.script_compiler.proofs.Prelude.{◌≡◌, ◌++◌, suc, List, drop, map, sym, ◌∙◌, arith, append-nil, at_drop_all, view_field, fields_error, past_fields, fields_grow, from_next, field_view}
use Rattle.script_grammar.specs.declared.declaration.Field.{Field}
use Rattle.script_compiler.proofs.lowering.actor.fields.Goals as goal

pub returns-clause-finds : goal.returns-clause-finds
returns-clause-finds c =
    sym c.loop-field.invariant.errors ∙ at_drop_all (λ (fs : List Field). fields_error c.loop-field.seen c.loop-field.at (map view_field fs)) c.args.fields.now c.loop-field.field-index (omega (arith, c.loop-field-test.false))

pub returns-clause-after : goal.returns-clause-after
returns-clause-after c =
    sym (at_drop_all (λ (fs : List Field). past_fields (map view_field fs) c.loop-field.at) c.args.fields.now c.loop-field.field-index (omega (arith, c.loop-field-test.false))) ∙ c.loop-field.invariant.after

pub returns-clause-fields : goal.returns-clause-fields
returns-clause-fields c =
    sym (append-nil (map field_view c.loop-field.compiled.items))
    ∙ sym (at_drop_all (λ (fs : List Field). map field_view c.loop-field.compiled.items ++ map view_field fs) c.args.fields.now c.loop-field.field-index (omega (arith, c.loop-field-test.false)))
    ∙ c.loop-field.invariant.fields

pub unless_seen-requires : goal.unless_seen-requires
unless_seen-requires c =
    let x = c.field-item.result in
    let xs = c.args.fields.now in
    let i = c.loop-field.field-index in
    let here = from_next (λ (ys : List Field). past_fields (map view_field ys) c.loop-field.at ≡ past_fields (map view_field xs) c.args.at.now) xs i x c.loop-field-test.true c.field-item.is c.loop-field.invariant.after in
    omega (arith, c.requires, here, fields_grow (map view_field (drop (suc i) xs)) (suc c.loop-field.at))
