use Rattle.swift_steps.proofs.Prelude.{take, AllZip, IsSameIf}
use Rattle.swift_steps.proofs.next_turn.copy_all.Given as goal

abbrev pub invariant-loop-ready : goal.invariant-loop-ready
invariant-loop-ready l = AllZip IsSameIf (take l.ready-index l.tasks) l.copy.items
