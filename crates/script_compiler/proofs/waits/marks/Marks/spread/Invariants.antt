use Rattle.script_compiler.proofs.Prelude.{left_of}
use Rattle.script_compiler.proofs.Spread.{IsSpreading}
use Rattle.script_compiler.proofs.waits.marks.Marks.spread.Given as goal

abbrev pub invariant-loop-method : goal.invariant-loop-method
invariant-loop-method l = IsSpreading l.callers l.initial.self l.self

abbrev pub decreases-loop-method : goal.decreases-loop-method
decreases-loop-method l = left_of l.self
