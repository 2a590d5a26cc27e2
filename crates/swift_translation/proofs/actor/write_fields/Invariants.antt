use Rattle.swift_translation.specs.ActorTexts.{each, own_field}
use Rattle.swift_translation.specs.WritingInside.{GoesOn}
use Rattle.swift_translation.proofs.actor.write_fields.Given as goal

abbrev pub invariant-loop-place : goal.invariant-loop-place
invariant-loop-place l = GoesOn l.initial.out l.out (each (own_field l.source l.actor) l.place)
