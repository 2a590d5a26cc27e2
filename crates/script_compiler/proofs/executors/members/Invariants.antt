use Rattle.script_compiler.proofs.Prelude.{◌≡◌, ◌++◌, ◌-◌, map, actor_number, members_below}
use Rattle.script_compiler.proofs.executors.members.Given as goal

abbrev pub invariant-loop-actor : goal.invariant-loop-actor
invariant-loop-actor l = map actor_number l.members.items ++ members_below l.plan l.executor l.actor (l.actors - l.actor) ≡ members_below l.plan l.executor 0 l.actors
