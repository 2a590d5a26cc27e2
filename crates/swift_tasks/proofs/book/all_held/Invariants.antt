use Rattle.swift_tasks.proofs.Prelude.{take, AllZip, IsSameHeld}
use Rattle.swift_tasks.proofs.book.all_held.Given as goal

abbrev pub invariant-loop-waiting : goal.invariant-loop-waiting
invariant-loop-waiting l = AllZip IsSameHeld (take l.waiting-index l.held) l.copy.items
