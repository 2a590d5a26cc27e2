use Rattle.swift_interpreter.proofs.Prelude.{◌≡◌, ◌≤◌, length, take, newest_first, oldest}
use Rattle.swift_interpreter.proofs.saved.oldest_row.Given as goal

abbrev pub invariant-loop-left : goal.invariant-loop-left
invariant-loop-left l = record {
  within : l.left ≤ length l.rows;
  rest : oldest (newest_first (take l.left l.rows)) l.actor l.row ≡ oldest (newest_first l.rows) l.actor l.fn.row;
}

abbrev pub decreases-loop-left : goal.decreases-loop-left
decreases-loop-left l = l.left
