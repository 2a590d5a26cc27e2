use Rattle.swift_explorer.proofs.UnnamedRoots.{FirstSpare}
use Rattle.swift_explorer.proofs.unnamed.root_is_unnamed.Given as goal

abbrev pub invariant-loop-place : goal.invariant-loop-place
invariant-loop-place l = FirstSpare l.script l.task.0 l.place
