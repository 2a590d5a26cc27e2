use Rattle.swift_interpreter.proofs.Prelude.{◌≡◌, ◌≤◌, length, take, is_saved, newest_first}
use Rattle.swift_interpreter.proofs.saved.has_row.Given as goal

abbrev pub invariant-loop-left : goal.invariant-loop-left
invariant-loop-left l = record {
  within : l.left ≤ length l.rows;
  rest : is_saved (newest_first (take l.left l.rows)) l.actor ≡ is_saved (newest_first l.rows) l.actor;
}

abbrev pub decreases-loop-left : goal.decreases-loop-left
decreases-loop-left l = l.left
