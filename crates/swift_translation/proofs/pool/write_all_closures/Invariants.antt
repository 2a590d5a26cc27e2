use Rattle.swift_translation.specs.ActorTexts.{each, own_closures}
use Rattle.swift_translation.specs.WritingInside.{GoesOn}
use Rattle.swift_translation.proofs.pool.write_all_closures.Given as goal

abbrev pub invariant-loop-instance : goal.invariant-loop-instance
invariant-loop-instance l = GoesOn l.initial.out l.out (each (own_closures l.source) l.instance)
