use Rattle.swift_explorer.proofs.Prelude.{◌≡◌, ◌≤◌, ◌++◌, drop, length, reverse}
use Rattle.swift_explorer.proofs.kept.push_back.Given as goal

-- those from here on are there, the last one first
abbrev pub invariant-left : goal.invariant-left
invariant-left l = record {
  low : l.left ≤ length l.moves;
  path : l.path.items ≡ l.fn.path.items ++ reverse (drop l.left l.moves);
}

abbrev pub decreases-left : goal.decreases-left
decreases-left l = l.left
