use Rattle.nuchapay_runs.proofs.Prelude.{◌≡◌, ◌+◌, drop, map, actor_number, place_among}
use Rattle.nuchapay_runs.proofs.explained.place_among.Given as goal

abbrev pub invariant-loop-place : goal.invariant-loop-place
invariant-loop-place l = l.place + place_among (map actor_number (drop l.place l.actors)) l.actor.0 ≡ place_among (map actor_number l.actors) l.actor.0
