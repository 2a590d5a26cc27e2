use Rattle.swift_executor.proofs.Prelude.{◌≡◌, ℤ, length, ap, sym, ◌∙◌, arith, length-map, Vec, rows_of, FieldsAre}
use Rattle.std.specs.declared.alloc.Global.{Global}
use Rattle.swift_executor.proofs.Rows.{restored_length}
use Rattle.swift_executor.proofs.fields.Fields.len.Goals as goal

pub returns : goal.returns
returns c =
    let x = c.self.inside in
    let long : c.len.result ≡ length x.rows.items = omega (arith, c.len.ensures) in
    long
    ∙ sym (restored_length x.saved (rows_of x.rows.items) ∙ length-map x.rows.items (λ (v : Vec ℤ Global). v.items))
    ∙ ap (λ (f : FieldsAre). length f.before) c.self.view_is
