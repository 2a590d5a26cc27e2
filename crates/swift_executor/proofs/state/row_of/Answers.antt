use Rattle.swift_executor.proofs.Prelude.{◌≡◌, ◌+◌, suc, ℕ, [], drop, map, get_or, sym, subst, ◌∙◌, arith, eqb-false, eqb-true, get_or-map, length-map, ActorId, fields_at}
use Rattle.swift_executor.proofs.Rows.{hits, no_row, passes}
use Rattle.swift_executor.proofs.state.row_of.Goals as goal

pub returns-then-place-len : goal.returns-then-place-len
returns-then-place-len c =
    sym (no_row (map (λ (a : ActorId). a.0) c.args.actors.now) c.args.fields.now.before c.loop-place.place c.args.actor.0 (omega (arith, c.if-place-len.true, c.len.ensures))) ∙ c.loop-place.invariant

pub returns-then-eq : goal.returns-then-eq
returns-then-eq c =
    let rows = c.args.fields.now.before in
    let actors = c.args.actors.now in
    let names = map (λ (a : ActorId). a.0) actors in
    let place = c.loop-place.place in
    let size = length-map actors (λ (a : ActorId). a.0) in
    let is : get_or names place 0 ≡ c.args.actor.0 = get_or-map (λ (a : ActorId). a.0) actors place (record { 0 = 0 }) 0 c.loop-place-test.true ∙ eqb-true (get_or actors place (record { 0 = 0 })).0 c.args.actor.0 (sym c.if-eq.ensures) in
    c.before-then-eq.ensures
    ∙ sym (hits names rows place c.args.actor.0 [] (omega (arith, c.loop-place-test.true, size)) (omega (arith, c.if-place-len.false, c.len.ensures)) is)
    ∙ c.loop-place.invariant

pub loop-place-preserved : goal.loop-place-preserved
loop-place-preserved c =
    let rows = c.args.fields.now.before in
    let actors = c.args.actors.now in
    let names = map (λ (a : ActorId). a.0) actors in
    let place = c.loop-place.place in
    let size = length-map actors (λ (a : ActorId). a.0) in
    let is = get_or-map (λ (a : ActorId). a.0) actors place (record { 0 = 0 }) 0 c.loop-place-test.true in
    let one : suc place ≡ place + 1 = omega arith in
    subst (λ (n : ℕ). fields_at (drop n names) (drop n rows) c.args.actor.0 ≡ fields_at names rows c.args.actor.0) one
    (passes names rows place c.args.actor.0 (omega (arith, c.loop-place-test.true, size)) (omega (arith, c.if-place-len.false, c.len.ensures))
    (λ e. eqb-false (get_or actors place (record { 0 = 0 })).0 c.args.actor.0 (sym c.if-eq.ensures) (sym is ∙ e))
    ∙ c.loop-place.invariant)
