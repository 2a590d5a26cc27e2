use Rattle.script_compiler.proofs.Prelude.{◌≡◌, ◌<◌, ℕ, length, get_or, actor_place_in}
use Rattle.script_compiler.proofs.lowering.plan.actor_places.Given as goal

abbrev pub invariant-loop-actor : goal.invariant-loop-actor
invariant-loop-actor l = record {
  as_many : length l.actor_places.items ≡ l.actor;
  each : (k : ℕ) → k < l.actor → get_or l.actor_places.items k 0 ≡ actor_place_in l.executors k;
}
