use Rattle.nuchapay_runs.proofs.Prelude.{◌≡◌, drop, map, slice_get, actor_number, invariants_among}
use Rattle.nuchapay_runs.proofs.invariants.invariant_among.Given as goal

abbrev pub invariant-loop-actor : goal.invariant-loop-actor
invariant-loop-actor l =
    slice_get (invariants_among l.script (map actor_number (drop l.actor-index l.actors))) l.left ≡ slice_get (invariants_among l.script (map actor_number l.actors)) l.place
