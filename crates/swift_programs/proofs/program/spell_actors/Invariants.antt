use Rattle.std.proofs.Common.{◌≡◌, ◌++◌, take}
use Rattle.std.specs.List.{flat_map}
use Rattle.swift_programs.specs.Programs.{actor_text}
use Rattle.swift_programs.proofs.program.spell_actors.Given as goal

abbrev pub invariant-loop-actor : goal.invariant-loop-actor
invariant-loop-actor l = l.out.items ≡ l.initial.out.items ++ flat_map actor_text (take l.actor-index l.actors)
