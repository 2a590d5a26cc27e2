use Rattle.swift_executor.proofs.Prelude.{◌≡◌, ◌<◌, ℕ, ℤ, [], length, get_or, ap, sym, subst, ◌∙◌, arith, get_or-map, length-map, Vec, rows_of, FieldsAre}
use Rattle.std.specs.declared.alloc.Global.{Global}
use Rattle.swift_executor.proofs.Rows.{restored_length}
use Rattle.swift_executor.proofs.fields.Fields.before.Goals as goal

pub index-requires : goal.index-requires
index-requires c =
    let x = c.self.inside in
    let lt : c.args.place < length x.rows.items = subst (λ (n : ℕ). c.args.place < n)
    (ap (λ (f : FieldsAre). length f.before) (sym c.self.view_is) ∙ restored_length x.saved (rows_of x.rows.items) ∙ length-map x.rows.items (λ (v : Vec ℤ Global). v.items))
    c.requires in
    omega (arith, lt)

pub returns : goal.returns
returns c =
    let x = c.self.inside in
    let row = c.index.result.now in
    let within : c.args.place < length (rows_of x.rows.items) = subst (λ (n : ℕ). c.args.place < n)
    (ap (λ (f : FieldsAre). length f.before) (sym c.self.view_is) ∙ restored_length x.saved (rows_of x.rows.items))
    c.requires in
    let lt : c.args.place < length x.rows.items = subst (λ (n : ℕ). c.args.place < n) (length-map x.rows.items (λ (v : Vec ℤ Global). v.items)) within in
    let is : get_or (rows_of x.rows.items) c.args.place [] ≡ c.deref.result.now =
    get_or-map (λ (v : Vec ℤ Global). v.items) x.rows.items c.args.place row [] lt ∙ ap (λ (v : Vec ℤ Global). v.items) (sym c.index.ensures) ∙ sym c.deref.ensures.value in
    c.row_before.ensures (rows_of x.rows.items) within is ∙ ap (λ (f : FieldsAre). get_or f.before c.args.place []) c.self.view_is
