use Rattle.swift_undo.proofs.Prelude.{ℕ, ◌<◌, refl, subst, rows_of, terms_of}
use Rattle.swift_undo.proofs.AllAreTested.{readers_more}
use Rattle.swift_undo.proofs.tested.readers_hold.Goals as goal

pub loop-place-preserved : goal.loop-place-preserved
loop-place-preserved c =
    let lt = subst (λ (n : ℕ). c.loop-place.place < n) c.len-place-end.ensures c.loop-place-test.true in
    readers_more (terms_of c.args.invariants.now) c.args.rows.now c.args.saved.now (rows_of c.args.fields.now) c.loop-place.place c.actor.result c.readers.result.now
    lt c.actor.ensures c.loop-place.invariant c.readers.ensures (c.if-not-each_holds.ensures.all refl)
