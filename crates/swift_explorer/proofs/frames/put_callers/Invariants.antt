use Rattle.swift_explorer.proofs.Prelude.{◌≡◌, ◌≤◌, ◌++◌, length, map, reverse, take, frame_view, some_numbers, frame_numbers, with_counts}
use Rattle.swift_explorer.proofs.frames.put_callers.Given as goal

-- what is written and what is left to write are what is to be written
abbrev pub invariant-callers : goal.invariant-callers
invariant-callers l = record {
  inside : l.left ≤ length l.callers;
  written : l.key.items ++ some_numbers frame_numbers (map (with_counts (frame_view l.top)) (reverse (take l.left (map frame_view l.callers))))
      ≡ l.initial.key.items ++ some_numbers frame_numbers (map (with_counts (frame_view l.top)) (reverse (map frame_view l.callers)));
}

abbrev pub decreases-callers : goal.decreases-callers
decreases-callers l = l.left
