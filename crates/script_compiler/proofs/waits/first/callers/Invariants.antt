use Rattle.script_compiler.proofs.Prelude.{take, Calls, AreListsOf}
use Rattle.script_compiler.proofs.waits.first.callers.Given as goal

abbrev pub invariant-loop-edge : goal.invariant-loop-edge
invariant-loop-edge l = AreListsOf (Calls (take l.edge-index l.edges)) l.methods l.callers
