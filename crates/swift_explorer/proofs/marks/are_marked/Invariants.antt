use Rattle.swift_explorer.proofs.Prelude.{operation_is, term_is}
use Rattle.swift_explorer.proofs.MarksRead.{FirstMarked}
use Rattle.swift_explorer.proofs.marks.are_marked.Given as goal

abbrev pub invariant-loop-place : goal.invariant-loop-place
invariant-loop-place l = FirstMarked (operation_is l.kind) (term_is l.kind) l.marks l.lines l.place
