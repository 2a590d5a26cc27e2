use Rattle.swift_undo.proofs.Prelude.{ℕ, drop, refl, sym, ap, ◌∙◌, rows_of, terms_of, all_hold}
use Rattle.swift_undo.proofs.AllAreTested.{all_read}
use Rattle.swift_undo.proofs.tested.all_hold.Goals as goal

pub returns-then-readers_hold : goal.returns-then-readers_hold
returns-then-readers_hold c =
    let xs = c.args.invariants.now in
    let fields = rows_of c.args.fields.now in
    c.rest_holds.ensures
    ∙ ap (λ (n : ℕ). all_hold (terms_of (drop n xs)) fields) c.len.ensures
    ∙ sym (all_read xs c.args.rows.now c.args.saved.now fields c.requires (c.if-readers_hold.ensures.all refl))
