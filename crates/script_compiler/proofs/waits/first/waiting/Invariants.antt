use Rattle.script_compiler.proofs.Prelude.{◌+◌, length, take, WaitsInPlace, AreListsOf}
use Rattle.script_compiler.proofs.waits.first.waiting.Given as goal

abbrev pub invariant-loop-wait : goal.invariant-loop-wait
invariant-loop-wait l = AreListsOf (WaitsInPlace (take l.wait-index l.waits) (length l.roots)) (length l.roots + 1) l.waiting
