use Rattle.swift_translation.specs.ActorTexts.{each, printed_field}
use Rattle.swift_translation.specs.WritingInside.{GoesOn}
use Rattle.swift_translation.proofs.pool.write_printed_fields.Given as goal

abbrev pub invariant-loop-place : goal.invariant-loop-place
invariant-loop-place l = GoesOn l.initial.out l.out (each (printed_field l.source) l.place)
