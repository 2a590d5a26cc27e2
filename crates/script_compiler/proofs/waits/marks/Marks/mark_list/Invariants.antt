use Rattle.script_compiler.proofs.Prelude.{end_of}
use Rattle.script_compiler.proofs.Walk.{IsWalk}
use Rattle.script_compiler.proofs.waits.marks.Marks.mark_list.Given as goal

abbrev pub invariant-loop-next : goal.invariant-loop-next
invariant-loop-next l = IsWalk l.lists l.list l.next l.initial.self l.self

abbrev pub decreases-loop-next : goal.decreases-loop-next
decreases-loop-next l = end_of l.next
