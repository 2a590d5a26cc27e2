use Rattle.swift_tasks.proofs.Prelude.{◌≡◌, ◌-◌, ◌≤◌, vec_len, replicate, None, vec_capacity}
use Rattle.swift_tasks.proofs.book.none_held.Given as goal

abbrev pub invariant-fill : goal.invariant-fill
invariant-fill l = record {
  none : l.held.items ≡ replicate (vec_len l.held) None;
  few : vec_len l.held ≤ l.tasks;
  room : l.tasks ≤ vec_capacity l.held;
}

abbrev pub decreases-fill : goal.decreases-fill
decreases-fill l = l.tasks - vec_len l.held
