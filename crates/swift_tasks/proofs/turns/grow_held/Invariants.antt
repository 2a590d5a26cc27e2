use Rattle.swift_tasks.proofs.Prelude.{◌≡◌, ◌+◌, ◌≤◌, ◌++◌, vec_len, None, replicate, vec_capacity}
use Rattle.swift_tasks.proofs.turns.grow_held.Given as goal

abbrev pub invariant-grow : goal.invariant-grow
invariant-grow l = record {
  items : l.held.items ++ replicate l.left None ≡ l.initial.held.items ++ replicate l.tasks None;
  room : vec_len l.held + l.left ≤ vec_capacity l.held;
  capacity : vec_capacity l.held ≡ vec_capacity l.initial.held;
}

abbrev pub decreases-grow : goal.decreases-grow
decreases-grow l = l.left
