use Rattle.swift_explorer.proofs.Prelude.{◌≡◌, length, HaveMarks}
use Rattle.swift_explorer.proofs.marks.methods_marks.Given as goal

abbrev pub invariant-loop-place : goal.invariant-loop-place
invariant-loop-place l = record {
  many : length l.marks.items ≡ l.place;
  have : HaveMarks l.kind l.script l.marks.items;
}
