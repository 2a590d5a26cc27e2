use Rattle.swift_translation.specs.ActorTexts.{each}
use Rattle.swift_translation.specs.ScriptTexts.{local_at}
use Rattle.swift_translation.specs.WritingInside.{GoesOn}
use Rattle.swift_translation.proofs.script.write_locals.Given as goal

abbrev pub invariant-loop-place : goal.invariant-loop-place
invariant-loop-place l = GoesOn l.initial.out l.out (each (local_at l.source) l.place)
