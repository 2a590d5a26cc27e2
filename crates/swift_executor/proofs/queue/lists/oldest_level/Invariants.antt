use Rattle.swift_executor.proofs.Prelude.{IsOldestBelow}
use Rattle.swift_executor.proofs.queue.lists.oldest_level.Given as goal

abbrev pub invariant-loop-level : goal.invariant-loop-level
invariant-loop-level g l = IsOldestBelow l.level l.lists l.found
