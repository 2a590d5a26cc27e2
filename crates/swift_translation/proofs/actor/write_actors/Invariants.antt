use Rattle.swift_translation.specs.ActorTexts.{each, own_actor}
use Rattle.swift_translation.specs.WritingInside.{GoesOn}
use Rattle.swift_translation.proofs.actor.write_actors.Given as goal

abbrev pub invariant-loop-instance : goal.invariant-loop-instance
invariant-loop-instance l = GoesOn l.initial.out l.out (each (own_actor l.source) l.instance)
