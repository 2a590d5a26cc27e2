use Rattle.swift_executor.proofs.Prelude.{◌≡◌, drop, map, ActorId, fields_at}
use Rattle.swift_executor.proofs.state.row_of.Given as goal

abbrev pub invariant-loop-place : goal.invariant-loop-place
invariant-loop-place l = fields_at (drop l.place (map (λ (a : ActorId). a.0) l.actors)) (drop l.place l.fields.before) l.actor.0 ≡ fields_at (map (λ (a : ActorId). a.0) l.actors) l.fields.before l.actor.0
