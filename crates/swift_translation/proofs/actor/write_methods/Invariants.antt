use Rattle.swift_translation.specs.ActorTexts.{each, method_at}
use Rattle.swift_translation.specs.WritingInside.{GoesOn}
use Rattle.swift_translation.proofs.actor.write_methods.Given as goal

abbrev pub invariant-loop-place : goal.invariant-loop-place
invariant-loop-place l = GoesOn l.initial.out l.out (each (method_at l.source l.actor) l.place)
