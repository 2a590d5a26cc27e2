use Rattle.swift_tasks.proofs.Prelude.{ℕ, sym, subst, suc, add-one, take, List, [], ◌∷◌, ◌++◌, Option, arc_value, effect_views, BodyView, AreBodiesOf, CanStart}
use Rattle.swift_tasks.proofs.BodiesMade.{effect_at, bodies_more}
use Rattle.swift_tasks.proofs.bodies.bodies_of.Goals as goal

pub body_of-requires : goal.body_of-requires
body_of-requires c = effect_at (CanStart (arc_value c.args.script.now)) c.args.effects.now c.loop-effect.effect-index c.effect-item.result c.requires c.loop-effect-test.true c.effect-item.is

pub loop-effect-preserved : goal.loop-effect-preserved
loop-effect-preserved c =
    let script = arc_value c.args.script.now in
    let es = c.args.effects.now in
    let k = c.loop-effect.effect-index in
    let more : AreBodiesOf script (effect_views (take (suc k) es)) (c.loop-effect.bodies.items ++ c.in_ok-body_of.field-0 ∷ []) =
    bodies_more script es k c.effect-item.result c.loop-effect.bodies.items c.in_ok-body_of.field-0 c.loop-effect-test.true c.effect-item.is c.loop-effect.invariant c.in_ok-body_of.ensures in
    subst (λ (n : ℕ). AreBodiesOf script (effect_views (take n es)) c.push.new.self.items) (sym (add-one k))
    (subst (λ (bs : List (Option BodyView)). AreBodiesOf script (effect_views (take (suc k) es)) bs) (sym c.in_ok-push.ensures.items) more)
