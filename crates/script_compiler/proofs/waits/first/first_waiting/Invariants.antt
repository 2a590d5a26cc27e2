use Rattle.script_compiler.proofs.Prelude.{AreMarks, IsFirstFrom}
use Rattle.script_compiler.proofs.waits.first.first_waiting.Given as goal

abbrev pub invariant-loop-place : goal.invariant-loop-place
invariant-loop-place l = record {
  marks : AreMarks l.edges l.waits l.methods l.place l.marks;
  first : IsFirstFrom l.edges l.waits l.roots l.place l.first;
}
