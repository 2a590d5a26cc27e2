use Rattle.swift_translation.specs.ActorTexts.{each, closures_of}
use Rattle.swift_translation.specs.WritingInside.{GoesOn}
use Rattle.swift_translation.proofs.pool.write_closures.Given as goal

abbrev pub invariant-loop-place : goal.invariant-loop-place
invariant-loop-place l = GoesOn l.initial.out l.out (each (closures_of l.source l.actor) l.place)
