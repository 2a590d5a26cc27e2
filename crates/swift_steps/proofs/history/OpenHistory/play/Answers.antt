use Rattle.swift_steps.proofs.Prelude.{◌≡◌, ◌<◌, ◌∙◌, ℤ, Vec, length, refl, sym, ap, arith, Some, slice_get, Global, rows_of, get_or_read_under, length-set, slice_get-get_or, BodyView, PhaseView, idle}
use Rattle.swift_steps.proofs.Ran.{plays}
use Rattle.swift_steps.proofs.Rows.{rows_here, rows_set}
use Rattle.swift_steps.proofs.history.OpenHistory.play.Goals as goal

pub returns-clause-plays : goal.returns-clause-plays
returns-clause-plays c =
    let x = c.args.self.now in
    let k = c.in-Some-executor_of.place in
    let seen = λ (rows : Vec (Vec ℤ Global) Global). rows_of rows.items in
    let old = c.replace-fields.result in
    let outcome = c.in-Ok.field-0 in
    let new = outcome.fields in
    let lt : k < length x.fields.items = omega (arith, c.if-place-len.false, c.len.ensures) in
    let long : c.len.result ≡ length x.fields.items = omega (arith, c.len.ensures) in
    let read = c.replace-fields.ensures.value ∙ get_or_read_under x.fields.items k c.len.result c.index_mut.result.now old c.index_mut.ensures.value c.if-place-len.false long in
    let there : slice_get x.fields.items k ≡ Some old = slice_get-get_or x.fields.items k old lt ∙ ap Some (sym read) in
    let was = c.in-Some-take.ready in
    let body = c.replay_turn.new.body in
    let ran : body ≡ record was.body { task = record was.body.task { frames = body.task.frames }; phase = idle } = c.in-Ok.ensures.rest in
    let rest = ran ∙ ap (λ (p : PhaseView). record was.body { task = record was.body.task { frames = body.task.frames }; phase = p }) (sym (ap (λ (b : BodyView). b.phase) ran)) in
    plays x _ _ was (seen old) (seen new) c.requires
    (record { was = sym c.take.ensures.found ∙ c.in-Some-take.is; rest = c.take.ensures.rest; script_is = refl; book_is = refl; roots_are = refl; jobs_are = refl })
    c.in-Some.ensures.some c.in-Some-executor_of.ensures.runs (rows_here seen x.fields.items k old there) (rows_set seen x.fields.items _ k new c.replace-fields.new.dest lt refl)
    (length-set _ _ _ ∙ length-set x.fields.items k c.replace-fields.new.dest) c.in-Ok.ensures.turn (ap (λ (b : BodyView). record was { body = b }) rest)
