use Rattle.swift_interpreter.proofs.Prelude.{◌≡◌, ◌++◌, take, pairs_of}
use Rattle.swift_interpreter.proofs.values.standing.Given as goal

abbrev pub invariant-loop-binding : goal.invariant-loop-binding
invariant-loop-binding l = l.all ≡ pairs_of (take l.binding-index l.own) ++ l.outer
