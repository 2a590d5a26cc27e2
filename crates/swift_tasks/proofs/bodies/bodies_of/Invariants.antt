use Rattle.swift_tasks.proofs.Prelude.{take, arc_value, effect_views, AreBodiesOf}
use Rattle.swift_tasks.proofs.bodies.bodies_of.Given as goal

abbrev pub invariant-loop-effect : goal.invariant-loop-effect
invariant-loop-effect l = AreBodiesOf (arc_value l.script) (effect_views (take l.effect-index l.effects)) l.bodies.items
