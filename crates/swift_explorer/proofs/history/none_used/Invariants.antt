use Rattle.swift_explorer.proofs.Prelude.{◌≡◌, ◌-◌, ◌≤◌, false, vec_len, replicate, vec_capacity}
use Rattle.swift_explorer.proofs.history.none_used.Given as goal

abbrev pub invariant-fill : goal.invariant-fill
invariant-fill l = record {
  none : l.used.items ≡ replicate (vec_len l.used) false;
  few : vec_len l.used ≤ l.executors;
  room : l.executors ≤ vec_capacity l.used;
}

abbrev pub decreases-fill : goal.decreases-fill
decreases-fill l = l.executors - vec_len l.used
