use Rattle.script_compiler.proofs.Prelude.{◌≡◌, ◌++◌, map, drop, terms_of, invariants_among, actor_number, actor_view}
use Rattle.script_compiler.proofs.executors.invariants.Given as goal

abbrev pub invariant-loop-member : goal.invariant-loop-member
invariant-loop-member l = terms_of l.invariants.items ++ invariants_among (map actor_view l.actors) (map actor_number (drop l.member-index l.members)) ≡ invariants_among (map actor_view l.actors) (map actor_number l.members)
