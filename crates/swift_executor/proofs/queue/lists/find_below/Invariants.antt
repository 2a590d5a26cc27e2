use Rattle.swift_executor.proofs.Prelude.{AreWithout}
use Rattle.swift_executor.proofs.queue.lists.find_below.Given as goal

abbrev pub invariant-loop-lower : goal.invariant-loop-lower
invariant-loop-lower g l = AreWithout l.lower l.lists l.task
