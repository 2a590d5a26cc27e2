use Rattle.swift_executor.proofs.Prelude.{◌≡◌, ◌≤◌, length, IsPermutation, TASKS}
use Rattle.swift_executor.proofs.Counting.{AreCountedBelow}
use Rattle.swift_executor.proofs.ready.ReadyJobs.count_each.Given as goal

abbrev pub invariant-loop-place : goal.invariant-loop-place
invariant-loop-place g l =
    IsPermutation l.initial.self.front l.self.front × AreCountedBelow l.place l.initial.self.levels l.given l.self.levels × (l.self ≡ record l.initial.self { front = l.self.front; levels = l.self.levels })
    × (length l.given ≤ TASKS)
