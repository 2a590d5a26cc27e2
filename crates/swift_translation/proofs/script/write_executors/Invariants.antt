use Rattle.swift_translation.specs.ActorTexts.{each}
use Rattle.swift_translation.specs.ScriptTexts.{executor_at}
use Rattle.swift_translation.specs.WritingInside.{GoesOn}
use Rattle.swift_translation.proofs.script.write_executors.Given as goal

abbrev pub invariant-loop-instance : goal.invariant-loop-instance
invariant-loop-instance l = GoesOn l.initial.out l.out (each (executor_at l.source) l.instance)
